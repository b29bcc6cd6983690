-- What is read and written in one way.
use Rattle.std.proofs.Common.{◌≡◌, ◌≢◌, ◌⊎◌, inl, inr, ℕ, zero, suc, List, [], ◌∷◌, ◌++◌, Option, Some, None, refl, sym, ap, subst, ◌∙◌, arith}
use Rattle.std.specs.Option.{option_or}
use Rattle.std.proofs.lemmas.List.{append-nil}
use Rattle.buffa_bytes.specs.declared.error.EncodeError.{EncodeError}
use Rattle.buffa_bytes.specs.declared.error.EncodeError.TheVariants.{OutOfMemory}
use Rattle.buffa_wire.specs.BudgetLeft.{BudgetLeft, Pays, defaults, minus}
use Rattle.buffa_wire.specs.Records.{FieldData}
use Rattle.buffa_codec.specs.Decoded.{AddsSome, LaterReadingsWin, ReadsAll, ReadsList, elements, last_read}
use Rattle.buffa_ext_laws.specs.LeftOpenCodecs.{AreValues, BeginsAlike, EncodingIsPinned, HasAnswer, LeavesOne, OneAnswer, OneList, RefusalIsPinned}
use Rattle.buffa_codec.specs.CodecFacts.{left_over}
use Rattle.buffa_codec.proofs.FilteredLemmas.{last_read-append}
use Rattle.std.proofs.lemmas.Option.{none-some, same_Some}

-- ---- one value

pub later_readings : {M : Type 0} (one : FieldData → Option M) → LaterReadingsWin (λ ds o. o ≡ last_read one ds)
later_readings one s r o = (
  λ h. (last_read one s, last_read one r, refl, refl, h ∙ last_read-append one s r),
  λ k. k.4 ∙ ap (λ z. option_or k.1 z) k.2 ∙ ap (λ z. option_or z (last_read one s)) k.3 ∙ sym (last_read-append one s r),
)

-- ---- lists

module _ {M : Type 0} (one : BudgetLeft → FieldData → Option M) (leaves : BudgetLeft → FieldData → BudgetLeft → Type 0) (packed : List ℕ → List M) where
  module _ (free : (b left : BudgetLeft) (d : FieldData) → leaves b d left → left ≡ b) where
    all_alike : (b : BudgetLeft) (ds : List FieldData) (vs ws : List M) (x y : BudgetLeft) → ReadsAll one leaves packed b ds vs x → ReadsAll one leaves packed b ds ws y → vs ≡ ws
    all_alike b [] vs ws x y h k = h.0 ∙ sym k.0
    all_alike b (d ∷ ds) vs ws x y h k =
        let mine = subst (λ m. ReadsAll one leaves packed m ds h.1 x) (free b h.0 d h.2) h.3 in
        let other = subst (λ m. ReadsAll one leaves packed m ds k.1 y) (free b k.0 d k.2) k.3 in
        h.4 ∙ ap (λ l. elements packed d (one b d) ++ l) (all_alike b ds h.1 k.1 x y mine other) ∙ sym k.4

    pub lists_alike : OneAnswer (ReadsList one leaves packed)
    lists_alike ds vs ws h k = all_alike defaults ds vs ws h.0 k.0 h.1 k.1

    module _ (made : (b : BudgetLeft) (d : FieldData) → leaves b d b) where
      all_there : (b : BudgetLeft) (ds : List FieldData) → (vs : List M) × ReadsAll one leaves packed b ds vs b
      all_there b [] = ([], (refl, refl))
      all_there b (d ∷ ds) = let t = all_there b ds in (elements packed d (one b d) ++ t.0, (b, t.0, made b d, t.1, refl))

      pub lists_there : HasAnswer (ReadsList one leaves packed)
      lists_there ds = let t = all_there defaults ds in (t.0, (defaults, t.1))

  module _ (cost : FieldData → BudgetLeft) (spends : (b left : BudgetLeft) (d : FieldData) (v : M) → one b d ≡ Some v → leaves b d left → Pays b (cost d) left) where
    pub leaves_one : LeavesOne one leaves
    leaves_one b x y d v e h k = left_over b (cost d) x (spends b x d v e h) ∙ sym (left_over b (cost d) y (spends b y d v e k))

    begins : (b : BudgetLeft) (front back : List FieldData) (vs out : List M) (left : BudgetLeft) → AreValues one cost b front vs → ReadsAll one leaves packed b (front ++ back) out left
        → (rest : List M) × (end : BudgetLeft) × ReadsAll one leaves packed end back rest left × (out ≡ vs ++ rest)
    begins b [] back vs out left a h = (out, b, h, sym (ap (λ l. l ++ out) a))
    begins b (d ∷ front) back vs out left a h =
        let after = left_over b (cost d) h.0 (spends b h.0 d a.0 a.2 h.2) in
        let t = begins (minus b (cost d)) front back a.1 h.1 left a.3 (subst (λ m. ReadsAll one leaves packed m (front ++ back) h.1 left) after h.3) in
        (t.0, t.1, t.2, h.4 ∙ ap (λ o. elements packed d o ++ h.1) a.2 ∙ ap (λ l. a.0 ∷ l) t.3 ∙ ap (λ l. l ++ t.0) (sym a.4))

    pub begins_alike : BeginsAlike (ReadsList one leaves packed) one cost
    begins_alike front back vs out a h = let t = begins defaults front back vs out h.0 a h.1 in (t.0, t.3)

    pub one_list : OneList (ReadsList one leaves packed) one cost
    one_list ds vs out a h =
        let t = begins defaults ds [] vs out h.0 a (subst (λ l. ReadsAll one leaves packed defaults l out h.0) (sym (append-nil ds)) h.1) in
        t.3 ∙ ap (λ l. vs ++ l) t.2.0 ∙ append-nil vs

-- ---- refusals

module _ (T : Type 0) (refusal : Option EncodeError) where
  either_by : (e : EncodeError) → refusal ≡ None → ((e ≡ OutOfMemory) ⊎ (refusal ≡ Some e)) → e ≡ OutOfMemory
  either_by e h (inl k) = k
  either_by e h (inr k) = absurd (none-some e (sym h ∙ k))

  reported_by : (e f : EncodeError) → ((e ≡ OutOfMemory) ⊎ (refusal ≡ Some e)) → ((f ≡ OutOfMemory) ⊎ (refusal ≡ Some f)) → e ≢ OutOfMemory → f ≢ OutOfMemory → e ≡ f
  reported_by e f (inl h) k mine other = absurd (mine h)
  reported_by e f (inr h) (inl k) mine other = absurd (other k)
  reported_by e f (inr h) (inr k) mine other = same_Some e f (sym h ∙ k)

  pub refusal_is_pinned : RefusalIsPinned T refusal
  refusal_is_pinned = record { either = λ x e h k. either_by e h k; reported = λ e f h k. reported_by e f h k }

-- ---- encodings

none_of_one : (old new : List (ℕ × FieldData)) (r : ℕ × FieldData) → AddsSome old (r ∷ []) new → new ≡ old
none_of_one old new r (zero, lt, e) = e ∙ append-nil old
none_of_one old new r (suc k, lt, e) = absurd (omega (arith, lt))

pub encoding_is_pinned : EncodingIsPinned
encoding_is_pinned = record { written = λ old more a b h k. h ∙ sym k; refused = none_of_one }
