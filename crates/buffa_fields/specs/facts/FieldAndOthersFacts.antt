-- What a field and the others owe together.
use Rattle.std.proofs.Common.{◌≡◌, inl, inr, ℕ, ◌==◌, Bool, true, false, not, ◌&&◌, ◌||◌, List, [], ◌∷◌, ◌++◌, Some, Result, Ok, Err, refl, sym, ap, subst, ◌∙◌, arith, append_assoc, if◌then◌else◌}
use Rattle.std.proofs.lemmas.Bool.{and_parts, ltb-true, ne_eqb, or_left, or_right}
use Rattle.std.specs.List.{AllByRecursion}
use Rattle.std.specs.Option.{option_map}
use Rattle.std.specs.Prelude.{nat_lt}
use Rattle.buffa_bytes.specs.declared.wire_type.WireType.{WireType}
use Rattle.buffa_wire.specs.BudgetLeft.{BudgetLeft, Lacks, Pays, PaysAtMost}
use Rattle.buffa_bytes.specs.declared.error.DecodeError.{DecodeError}
use Rattle.buffa_bytes.specs.Number.{IsNumber}
use Rattle.buffa_wire.specs.Parse.{Fits}
use Rattle.buffa_wire.specs.ReadableFacts.{Readable}
use Rattle.buffa_wire.specs.Records.{FieldData, records_of}
use Rattle.buffa_wire.specs.Encoding.{records_encoding}
use Rattle.buffa_wire.specs.Takes.{IsTaken, Leads, Charge, Piece, ReadsBack, Stays, Taker, joined_fields}
use Rattle.buffa_fields.specs.facts.BlankFacts.{same_false_only}
use Rattle.buffa_fields.specs.UndeclaredFields.{AllNumbers}
use Rattle.buffa_fields.specs.Schema.{IsPutBehind, both_charge, both_take, is_number}
use Rattle.buffa_wire.proofs.EncodingLemmas.{records_encoding-append}

-- ---- records
pub readable_both : (xs ys : List (ℕ × FieldData)) → Readable (records_of (xs ++ ys)) → Readable (records_of xs) × Readable (records_of ys)
readable_both [] ys h = (tt, h)
readable_both (x ∷ xs) ys h = let k = readable_both xs ys h.2 in ((h.0, h.1, k.0), k.1)

pub fits_both : (xs ys : List (ℕ × FieldData)) → Fits (records_of (xs ++ ys)) → Fits (records_of xs) × Fits (records_of ys)
fits_both [] ys h = (tt, h)
fits_both (x ∷ xs) ys h = let k = fits_both xs ys h.1 in ((h.0, k.0), k.1)

-- ---- costs
pub either_stays : (mine : ℕ → Bool) (f g : Charge) → Stays f → Stays g → Stays (λ d n w bs. if mine n then f d n w bs else g d n w bs)
either_stays mine f g h j d n w p x payload = at (mine n)
  where
    at : (b : Bool) → (if b then f d n w (p ++ x) else g d n w (p ++ x)) ≡ (if b then f d n w p else g d n w p)
    at true = h d n w p x payload
    at false = j d n w p x payload

pub both_stay : (k : ℕ) (f g : Charge) → Stays f → Stays g → Stays (both_charge k f g)
both_stay k f g = either_stays (λ n. n == k) f g

-- ---- encodings that read back
pub joined-append : (xs ys : List Piece) → joined_fields (xs ++ ys) ≡ joined_fields xs ++ joined_fields ys
joined-append [] ys = refl
joined-append (x ∷ xs) ys = ap (λ (z : List ℕ). (x.tag ++ x.payload) ++ z) (joined-append xs ys) ∙ sym (append_assoc (x.tag ++ x.payload) (joined_fields xs) (joined_fields ys))

pub leads_both : {X : Type 0} (T : Taker X) (P : ℕ → Bool) (d : ℕ) (s t u : X) (fs gs : List Piece) → Leads T P d s fs t → Leads T P d t gs u → Leads T P d s (fs ++ gs) u
leads_both T P d s t u [] gs h l = subst (λ z. Leads T P d z gs u) (sym h) l
leads_both T P d s t u (x ∷ fs) gs (is, tag, payload, v, h, j) l = (is, tag, payload, v, h, leads_both T P d v t u fs gs j l)

pub number_of_test : (n : ℕ) → is_number n ≡ true → IsNumber n
number_of_test n h =
    let both = and_parts (nat_lt 0 n) (nat_lt n 536870912) h in
    let low = ltb-true 0 n both.0 in
    let high = ltb-true n 536870912 both.1 in
    (omega (arith, low), omega (arith, high))

-- numbers that aren't declared are no number that is
pub not_declared : (k : ℕ) (D : ℕ → Bool) → D k ≡ false → (n : ℕ) → D n ≡ true → (n == k) ≡ false
not_declared k D other n is = ne_eqb n k (λ e. let both = sym is ∙ ap D e ∙ other in cc)

-- fields of some numbers, and others that don't declare these
module _ (mine : ℕ → Bool) (D : ℕ → Bool) (other : (n : ℕ) → D n ≡ true → mine n ≡ false) where
  abbrev pub or_declared : ℕ → Bool
  or_declared n = mine n || D n

  module _ {A B : Type 0} (T : Taker (A × B)) where
    -- the others lead, where fields of other numbers are theirs
    pub others_lead : (g : Taker B) → ((d : ℕ) (a : A) (b u : B) (n : ℕ) (w : WireType) (p : List ℕ) → mine n ≡ false → g d b n w p ≡ Some u → T d (a, b) n w p ≡ Some (a, u)) →
        (d : ℕ) (a : A) (s t : B) (fs : List Piece) → Leads g D d s fs t → Leads T or_declared d (a, s) fs (a, t)
    others_lead g theirs d a s t [] h = ap (λ x. (a, x)) h
    others_lead g theirs d a s t (x ∷ fs) (is, tag, payload, u, h, l) =
        (or_right (mine x.number) (D x.number) is, tag, payload, (a, u), theirs d a s u x.number x.wire x.payload (other x.number is) h, others_lead g theirs d a u t fs l)

    -- so does the field
    pub first_leads : (f : Taker A) (b : B) → ((d : ℕ) (a u : A) (n : ℕ) (w : WireType) (p : List ℕ) → mine n ≡ true → f d a n w p ≡ Some u → T d (a, b) n w p ≡ Some (u, b)) →
        (d : ℕ) (s t : A) (fs : List Piece) → Leads f mine d s fs t → Leads T or_declared d (s, b) fs (t, b)
    first_leads f b mine_take d s t [] h = ap (λ x. (x, b)) h
    first_leads f b mine_take d s t (x ∷ fs) (is, tag, payload, u, h, l) =
        (or_left (mine x.number) (D x.number) is, tag, payload, (u, b), mine_take d s u x.number x.wire x.payload is h, first_leads f b mine_take d u t fs l)

-- what is sound of a field and the others
pub sound_parts : (k : ℕ) (D sound : Bool) → (is_number k && not D && sound) ≡ true → IsNumber k × (D ≡ false) × (sound ≡ true)
sound_parts k D sound ok =
    let two = and_parts (is_number k && not D) sound ok in
    let one = and_parts (is_number k) (not D) two.0 in
    (number_of_test k one.0, same_false_only D one.1, two.1)

-- encodings that read back, one behind the other
pub joined_back : {X : Type 0} (T : Taker X) (P : ℕ → Bool) (d : ℕ) (s t u : X) (xs ys : List (ℕ × FieldData)) (fs gs : List Piece) → records_encoding xs ≡ joined_fields fs → records_encoding ys ≡ joined_fields gs →
    Leads T P d s fs t → Leads T P d t gs u → ReadsBack T P d s (records_encoding (xs ++ ys)) u
joined_back T P d s t u xs ys fs gs is at h l = record {
  pieces = fs ++ gs;
  spelled = records_encoding-append xs ys ∙ (λ i. is i ++ at i) ∙ sym (joined-append fs gs);
  leads = leads_both T P d s t u fs gs h l;
}

pub both_back : {A B : Type 0} (k : ℕ) (f : Taker A) (g : Taker B) (D : ℕ → Bool) → D k ≡ false → (d : ℕ) (a v : A) (b u : B) (fr gr : List (ℕ × FieldData)) →
    ReadsBack f (λ n. n == k) d a (records_encoding fr) v → ReadsBack g D d b (records_encoding gr) u →
    ReadsBack (both_take k f g) (λ n. n == k || D n) d (a, b) (records_encoding (fr ++ gr)) (v, u)
both_back k f g D other d a v b u fr gr x y =
    joined_back (both_take k f g) (λ n. n == k || D n) d (a, b) (v, b) (v, u) fr gr x.pieces y.pieces x.spelled y.spelled
    (first_leads (λ n. n == k) D (not_declared k D other) (both_take k f g) f b (λ d a u n w p is h. rw (is, h) refl) d a v x.pieces x.leads)
    (others_lead (λ n. n == k) D (not_declared k D other) (both_take k f g) g (λ d a b u n w p off h. rw (off, h) refl) d v b u y.pieces y.leads)

-- what is kept is put behind the others again
pub both_again : {A B : Type 0} (k : ℕ) (f : Taker A) (g : Taker B) (adds : B → List (ℕ × FieldData) → B) (d : ℕ) (ys : List (ℕ × FieldData)) → AllNumbers (λ n. not (n == k)) ys → AllByRecursion (IsPutBehind g adds d) ys →
    AllByRecursion (IsPutBehind (both_take k f g) (λ v rs. (v.0, adds v.1 rs)) d) ys
both_again k f g adds d [] other h = tt
both_again k f g adds d (y ∷ ys) other h =
    (λ v p payload. rw (same_false_only (y.0 == k) other.0, h.0 v.1 p payload) refl, both_again k f g adds d ys other.1 h.1)

-- ---- one field of several is merged
module _ {A X : Type 0} (f : Taker A) (fn : Charge) (T : Taker X) (N : Charge) (d n : ℕ) (w : WireType) (a : A) (v : X) (set : A → X)
    (same : (p : List ℕ) → T d v n w p ≡ option_map set (f d a n w p)) (costs : (bs : List ℕ) → N d n w bs ≡ fn d n w bs) where
  pub part_taken : (bs rest : List ℕ) (before after : BudgetLeft) (r : Result (Unit {0}) DecodeError) (x : A) → IsTaken f fn d a n w bs before r x after rest →
      IsTaken T N d v n w bs before r (set x) after rest
  part_taken bs rest before after (Ok _) x (p, payload, split, h, pays) =
      (p, payload, split, same p ∙ ap (option_map set) h, subst (λ z. Pays before z after) (sym (costs bs)) pays)
  part_taken bs rest before after (Err _) x (pays, why, full) = (
    subst (λ z. PaysAtMost before z after) (sym (costs bs)) pays,
    λ ne. elim (why ne) [
      | inl few ↦ inl (subst (λ z. Lacks before z) (sym (costs bs)) few)
      | inr refused ↦ inr ((λ p x payload split. same p ∙ ap (option_map set) (refused.0 p x payload split)), refused.1)
    ],
    full,
  )
