-- The varints of int32 values, and tags.
use Rattle.std.proofs.Common.{◌≡◌, ℕ, ◌+◌, ◌-◌, ◌%◌, ◌^◌, ◌<◌, ◌≤◌, List, ◌++◌, length, Ok, refl, arith, ℤ, pos, negsuc, inl, inr}
use Rattle.std.specs.Prelude.{FitsSigned, ◌<ℤ◌}
use Rattle.std.specs.Int.{cast_unsigned, w32, w64}
use Rattle.std.proofs.lemmas.Int.{to_z-of_z, ints}
use Rattle.std.proofs.lemmas.Bool.{cases_lt}
use Rattle.buffa_bytes.specs.declared.wire_type.WireType.{WireType}
use Rattle.buffa_bytes.specs.Varint.{varint_encoding, base128}
use Rattle.buffa_bytes.specs.Number.{IsNumber}
use Rattle.buffa_bytes.specs.Readings.{tag_at}
use Rattle.buffa_bytes.proofs.VarintLemmas.{varint_complete, IsVarint-varint_encoding}
use Rattle.buffa_bytes.proofs.DigitLemmas.{base128-lt, grows}
use Rattle.buffa_bytes.proofs.ShortestLemmas.{ten_at_most}
use Rattle.buffa_bytes.proofs.FieldLemmas.{is_tag, tag_complete}
use Rattle.buffa_bytes.specs.Values.{tag_encoding, int32_encoding, int32_of, int32_at}

low : (v : ℤ) → FitsSigned w32 v → cast_unsigned w64 v % 2 ^ 32 ≡ cast_unsigned w32 v
low (pos n) h = omega (arith, h.sfits)
low (negsuc n) h = omega (arith, h.sfits)

pub int32_below : (v : ℤ) → FitsSigned w32 v → cast_unsigned w64 v < 2 ^ 64
int32_below (pos n) h = omega (arith, h.sfits)
int32_below (negsuc n) h = omega (arith, h.sfits)

-- the low 32 bits of an int32's number are the int32
pub int32_means : (v : ℤ) → FitsSigned w32 v → int32_of (cast_unsigned w64 v) ≡ v
int32_means v h = rw (low v h) (to_z-of_z w32 v h)

pub int32_back : (v : ℤ) (rest : List ℕ) → FitsSigned w32 v → int32_at (int32_encoding v ++ rest) ≡ Ok (v, rest)
int32_back v rest h =
    let f = int32_below v h in
    rw (varint_complete (varint_encoding (cast_unsigned w64 v)) (cast_unsigned w64 v) rest (IsVarint-varint_encoding (cast_unsigned w64 v) f), low v h, to_z-of_z w32 v h) refl

small_fits : (n : ℕ) (bs : List ℕ) → n ≡ base128 bs → length bs ≤ 9 → n < 2 ^ 63
small_fits n bs e l =
    let g : 128 ^ length bs ≤ 128 ^ (length bs + (9 - length bs)) = grows (length bs) (9 - length bs) in
    let k : length bs + (9 - length bs) ≡ 9 = omega arith in
    let m : 128 ^ length bs ≤ 128 ^ 9 = rw k at g in
    omega (arith, base128-lt bs)

pub ten : (n : ℕ) → 2 ^ 63 ≤ n → n < 2 ^ 64 → length (varint_encoding n) ≡ 10
ten n l h =
    let v = IsVarint-varint_encoding n h in
    elim (cases_lt (length (varint_encoding n)) 10) [
      | inl less ↦ absurd (omega (arith, small_fits n (varint_encoding n) v.value (omega arith)))
      | inr not ↦ omega (arith, ten_at_most n h)
    ]

pub tag_back : (f : ℕ) (w : WireType) (rest : List ℕ) → IsNumber f → tag_at (tag_encoding f w ++ rest) ≡ Ok (f, w, rest)
tag_back f w rest h = tag_complete (tag_encoding f w) f w rest (is_tag f w h)

pub negative_ten : (v : ℤ) → FitsSigned w32 v → v <ℤ pos 0 → length (int32_encoding v) ≡ 10
negative_ten (pos n) h l = absurd (omega (arith, ints, l))
negative_ten (negsuc n) h l = ten (cast_unsigned w64 (negsuc n)) (omega (arith, h.sfits)) (omega (arith, h.sfits))
