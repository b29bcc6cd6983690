-- Records that are read of bytes are valid.
use Rattle.std.proofs.Common.{◌≡◌, ℕ, ◌-◌, ◌^◌, ◌<◌, List, [], ◌∷◌, ◌++◌, length, sym, subst, arith}
use Rattle.std.specs.Int.{from_le_bytes, w32, w64}
use Rattle.std.specs.List.{AllByRecursion}
use Rattle.buffa_bytes.specs.Varint.{IsByte}
use Rattle.buffa_wire.specs.Parse.{AreValid, IsPayload, IsValidFieldData, Parse}
use Rattle.buffa_wire.specs.Records.{FieldData, Records, bytes, fixed32, fixed64, group, no_records, one, varint}

-- ---- what holds of a list holds of its parts
pub all_before : {A : Type 0} (P : A → Type 0) (xs ys : List A) → AllByRecursion P (xs ++ ys) → AllByRecursion P xs
all_before P [] ys h = tt
all_before P (x ∷ xs) ys h = (h.0, all_before P xs ys h.1)

pub all_behind : {A : Type 0} (P : A → Type 0) (xs ys : List A) → AllByRecursion P (xs ++ ys) → AllByRecursion P ys
all_behind P [] ys h = h
all_behind P (x ∷ xs) ys h = all_behind P xs ys h.1

abbrev pub AreBytes : List ℕ → Type 0
AreBytes = AllByRecursion IsByte

pub as_bytes : (a b : List ℕ) → a ≡ b → AreBytes a → AreBytes b
as_bytes a b is h = subst (λ z. AreBytes z) is h

-- ---- data
four_fit : (p : List ℕ) → length p ≡ 4 → AreBytes p → from_le_bytes w32 p < 2 ^ 32
four_fit (a ∷ b ∷ c ∷ d ∷ []) h k = omega (arith, k.0, k.1.0, k.1.1.0, k.1.1.1.0)
four_fit _ h k = absurd (omega (arith, h))

eight_fit : (p : List ℕ) → length p ≡ 8 → AreBytes p → from_le_bytes w64 p < 2 ^ 64
eight_fit (a ∷ b ∷ c ∷ d ∷ e ∷ f ∷ g ∷ i ∷ []) h k = omega (arith, k.0, k.1.0, k.1.1.0, k.1.1.1.0, k.1.1.1.1.0, k.1.1.1.1.1.0, k.1.1.1.1.1.1.0, k.1.1.1.1.1.1.1.0)
eight_fit _ h k = absurd (omega (arith, h))

-- ---- records
mutual
  pub parsed_valid : (rs : Records) (d : ℕ) (b : List ℕ) → AreBytes b → Parse d b rs → AreValid rs
  parsed_valid no_records d b k h = tt
  parsed_valid (one n x rs) d b k (f, r, (t, p, tag, payload, is), next, all) =
      let whole = as_bytes b (f ++ r) all k in
      let field = as_bytes f (t ++ p) is (all_before IsByte f r whole) in
      (tag.0, payload_valid x d n p (all_behind IsByte t p field) payload, parsed_valid rs d r (all_behind IsByte f r whole) next)

  pub payload_valid : (x : FieldData) (d n : ℕ) (p : List ℕ) → AreBytes p → IsPayload d n x p → IsValidFieldData x
  payload_valid (varint v) d n p k h = h.fits
  payload_valid (fixed32 v) d n p k h = subst (λ z. z < 2 ^ 32) (sym h.1) (four_fit p h.0 k)
  payload_valid (fixed64 v) d n p k h = subst (λ z. z < 2 ^ 64) (sym h.1) (eight_fit p h.0 k)
  payload_valid (bytes v) d n p k h = tt
  payload_valid (group rs) d n p k (o, b, t, h, tag, is) = parsed_valid rs (d - 1) b (all_before IsByte b t (as_bytes p (b ++ t) is k)) h
