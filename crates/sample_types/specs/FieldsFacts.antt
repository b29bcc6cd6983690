-- What is proved of single fields of the samples.
use Rattle.std.proofs.Common.{◌≡◌, ◌≢◌, inl, inr, ℤ, pos, negsuc, ℕ, ◌+◌, ◌*◌, zero, suc, ◌<◌, Bool, true, false, List, ◌∷◌, ◌++◌, length, Some, Result, Ok, Err, refl, sym, ap, subst, ◌∙◌, arith, append-nil, if◌then◌else◌}
use Rattle.buffa_bytes.specs.Field.{IsTag, Payload}
use Rattle.buffa_bytes.specs.Number.{IsNumber}
use Rattle.buffa_bytes.specs.Readings.{check_wire, tag_at, varint_at, ◌>>=◌, FullOnlyIf, Gives, same_wire}
use Rattle.buffa_wire.specs.Records.{FieldData}
use Rattle.buffa_wire.specs.Encoding.{records_encoding}
use Rattle.buffa_bytes.specs.Values.{int32_encoding, tag_encoding}
use Rattle.buffa_bytes.specs.Varint.{IsVarint, TakesVarint, VarintFault}
use Rattle.buffa_bytes.specs.declared.wire_type.WireType.{WireType}
use Rattle.buffa_bytes.specs.declared.wire_type.WireType.TheVariants.{Varint, EndGroup}
use Rattle.buffa_bytes.specs.declared.error.DecodeError.{DecodeError}
use Rattle.buffa_bytes.specs.declared.error.DecodeError.TheVariants.{OutOfMemory, WireTypeMismatch}
use Rattle.buffa_bytes.proofs.StepLemmas.{Agrees, agree_bind, agree_weaker}
use Rattle.buffa_bytes.proofs.FieldLemmas.{payload_complete, payload_sound, same_true}
use Rattle.buffa_bytes.proofs.ShortestLemmas.{varint_encoding-last}
use Rattle.buffa_bytes.proofs.VarintLemmas.{IsVarint-varint_encoding, varint_sound}
use Rattle.buffa_bytes.proofs.WireLemmas.{check_sound}
use Rattle.buffa_wire.proofs.MessageLemmas.{NoLimit, payload_no_limit, var_no_limit}
use Rattle.buffa_bytes.specs.Scan.{parse_all}
use Rattle.buffa_bytes.proofs.SequenceLemmas.{ok_same, parse_keeps}
use Rattle.buffa_wire.specs.ByField.{FieldReader, merged_by, next_at}
use Rattle.buffa_wire.proofs.ByFieldLemmas.{Same, some_of}
use Rattle.sample_types.specs.Fields.{number_records, number_encoding, skipped_field}
use Rattle.buffa_wire.proofs.EncodingLemmas.{records_encoding-append}

-- ---- fields that are passed over
module _ {X : Type 0} (d : ℕ) (v : X) (n : ℕ) (w : WireType) where
  pub skipped_sound : (bs : List ℕ) → Agrees (skipped_field d v n w bs) (λ x. (p : List ℕ) × Payload d n w p × (bs ≡ p ++ x.1)) NoLimit
  skipped_sound bs = agree_bind (payload_sound d n w bs) (λ rest u. record { holds = (u.0, u.1, u.2) }) (λ e h. payload_no_limit d n w bs e h)

  pub skipped_same : (p : List ℕ) → Payload d n w p → Same (skipped_field d v n w) p
  skipped_same p h = inl (v, λ x. rw (payload_complete d n w p x h) refl)

-- ---- fields of one wire type: of number m, in a field of number n, which is m
module _ {X : Type 0} (d n m : ℕ) (v : WireType) (reads : List ℕ → Result (X × List ℕ) DecodeError) where
  abbrev checked : WireType → List ℕ → Result (X × List ℕ) DecodeError
  checked w bs = check_wire m v w >>= (λ _. reads bs)

  pub checked_sound : ((bs : List ℕ) → Agrees (reads bs) (λ x. (p : List ℕ) × Payload d n v p × (bs ≡ p ++ x.1)) NoLimit) →
      (w : WireType) (bs : List ℕ) → Agrees (checked w bs) (λ x. (p : List ℕ) × Payload d n w p × (bs ≡ p ++ x.1)) NoLimit
  checked_sound sound w bs = agree_bind (check_sound m v w)
      (λ _ wire. agree_weaker (sound bs) (λ x u. (u.0, subst (λ z. Payload d n z u.0) (sym wire) u.1, u.2)) (λ e h. h))
      (λ e h. subst (λ z. NoLimit z) (sym h.1) (λ l. l))

  pub checked_alike : (w : WireType) (p : List ℕ) → Payload d n w p → (Payload d n v p → Same reads p) → Same (checked w) p
  checked_alike w p h same = at (same_wire v w) refl
    where
      at : (b : Bool) → same_wire v w ≡ b → Same (λ bs. (let r : Result (Unit {0}) DecodeError = if b then Ok tt else Err (WireTypeMismatch m v w) in r) >>= (λ _. reads bs)) p
      at true is = same (subst (λ z. Payload d n z p) (sym (same_true v w is)) h)
      at false is = inr (WireTypeMismatch m v w, λ x. refl)

-- where a varint is read, and put so
module _ {A X : Type 0} (d n m : ℕ) (read : List ℕ → Result (A × List ℕ) DecodeError) (put : A → X) where
  abbrev put_read : List ℕ → Result (X × List ℕ) DecodeError
  put_read bs = read bs >>= (λ x. Ok (put x.0, x.1))

  pub one_sound : ((bs : List ℕ) → Agrees (read bs) (λ x. (k : ℕ) × TakesVarint bs k x.1) (VarintFault bs)) →
      (w : WireType) (bs : List ℕ) → Agrees (checked d n m Varint put_read w bs) (λ x. (p : List ℕ) × Payload d n w p × (bs ≡ p ++ x.1)) NoLimit
  one_sound takes =
      checked_sound d n m Varint put_read (λ bs. agree_bind (takes bs) (λ x u. record { holds = (u.1.0, (u.0, u.1.1), u.1.2) }) (λ e h. var_no_limit bs e h))

  pub one_same : (of : ℕ → A) → ((p x : List ℕ) (k : ℕ) → IsVarint p k → read (p ++ x) ≡ Ok (of k, x)) → (w : WireType) (p : List ℕ) → Payload d n w p → Same (checked d n m Varint put_read w) p
  one_same of reads w p h = checked_alike d n m Varint put_read w p h (λ u. inl (put (of u.0), λ x. rw (reads p x u.0 u.1) refl))

-- what a varint says
pub varint_takes : (bs : List ℕ) → Agrees (varint_at bs) (λ x. (k : ℕ) × TakesVarint bs k x.1) (VarintFault bs)
varint_takes bs = agree_weaker (varint_sound bs) (λ k u. (k.0, u)) (λ e h. h)

-- one of two fields
pub same_if : {X : Type 0} (f g : List ℕ → Result (X × List ℕ) DecodeError) (p : List ℕ) (b : Bool) → Same f p → Same g p → Same (λ bs. if b then f bs else g bs) p
same_if f g p true h k = h
same_if f g p false h k = k

-- ---- what each field keeps, all keep
abbrev pub Keeps : {X : Type 0} → FieldReader X → (X → Type 0) → Type 0
Keeps {X} field P = (v : X) (n : ℕ) (w : WireType) (bs : List ℕ) (x : X × List ℕ) → P v → field v n w bs ≡ Ok x → P x.0

module _ {X : Type 0} (field : FieldReader X) (P : X → Type 0) (keeps : Keeps field P) where
  next_keeps : (r : Result (ℕ × WireType × List ℕ) DecodeError) (v : X) (x : X × List ℕ) → P v → (r >>= (λ t. field v t.0 t.1 t.2)) ≡ Ok x → P x.0
  next_keeps (Ok t) v x p h = keeps v t.0 t.1 t.2 x p h
  next_keeps (Err e) v x p h = cc

  pub merged_keeps : (v : X) (bs : List ℕ) (w : X) → P v → merged_by field v bs ≡ Some w → P w
  merged_keeps v bs w p h = parse_keeps (next_at field) (λ v _ r. (u : X) → P v → r ≡ Ok u → P u)
      (λ v u p e. subst P (ok_same e) p) (λ v b bs e is u p bad. cc) (λ v b bs x r is again u p e. again u (next_keeps (tag_at (b ∷ bs)) v x p is) e)
      (λ v bs u p bad. cc) v bs w p (some_of (parse_all (next_at field) v bs) w h)

-- ---- an end tag is no field, and isn't told as out of memory
abbrev pub Ends : {X : Type 0} → FieldReader X → Type 0
Ends {X} field = (v : X) (n : ℕ) (bs : List ℕ) → field v n EndGroup bs ≢ Err OutOfMemory

pub ends_if : {A : Type 0} (b : Bool) (x y : Result A DecodeError) → x ≢ Err OutOfMemory → y ≢ Err OutOfMemory → (if b then x else y) ≢ Err OutOfMemory
ends_if true x y h k = h
ends_if false x y h k = k

pub skipped_ends : {X : Type 0} (d : ℕ) (v : X) (n : ℕ) (bs : List ℕ) → skipped_field d v n EndGroup bs ≢ Err OutOfMemory
skipped_ends d v n bs h = cc

pub full_not_at_end : {X T : Type 0} (field : FieldReader X) → Ends field → (r : Result T DecodeError) (old new : X) (n : ℕ) (w : WireType) (bs rest : List ℕ) →
    Gives (λ _. (new, rest)) r (field old n w bs) → FullOnlyIf r (w ≢ EndGroup)
full_not_at_end field ends (Ok x) old new n w bs rest h = tt
full_not_at_end field ends (Err e) old new n w bs rest h = λ full is. ends old n bs (ap (λ z. field old n z bs) (sym is) ∙ h ∙ ap (λ z. Err z) full)

-- ---- the encoding of an int32 field
pub number_encoding_records : (n : ℕ) (v : ℤ) → number_encoding n v ≡ records_encoding (number_records n v)
number_encoding_records n (pos zero) = refl
number_encoding_records n (pos (suc k)) = sym (append-nil (tag_encoding n Varint ++ int32_encoding (pos (suc k))))
number_encoding_records n (negsuc k) = sym (append-nil (tag_encoding n Varint ++ int32_encoding (negsuc k)))

-- the encoding of records and of more records
pub both_records : (a b : List ℕ) (xs ys : List (ℕ × FieldData)) → a ≡ records_encoding xs → b ≡ records_encoding ys → a ++ b ≡ records_encoding (xs ++ ys)
both_records a b xs ys h k = (λ i. h i ++ k i) ∙ sym (records_encoding-append xs ys)

-- the tag of a small number is one byte
pub tag_one : (n : ℕ) → n < 16 → length (tag_encoding n Varint) ≡ 1
tag_one n h = ap length (varint_encoding-last (8 * n + 0) (omega (arith, h)))

pub number_tag : (n : ℕ) → IsNumber n → n < 16 → IsTag (tag_encoding n Varint) n Varint
number_tag n is h = (is, IsVarint-varint_encoding (8 * n + 0) (omega (arith, h)))
