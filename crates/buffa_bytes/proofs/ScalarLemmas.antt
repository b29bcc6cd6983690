-- Scalars: what the numbers in their encodings mean, and that they are read back.
use Rattle.std.proofs.Common.{◌≡◌, ℕ, ◌+◌, ◌*◌, ◌/◌, ◌%◌, ◌^◌, ◌<◌, Bool, true, false, List, ◌++◌, length, Ok, refl, ap, ◌∙◌, arith, ℤ, pos, negsuc, inl, inr}
use Rattle.std.specs.Prelude.{FitsSigned}
use Rattle.std.specs.Int.{cast_unsigned, from_bool, int_wrap, to_le_bytes, w32, w64}
use Rattle.std.proofs.lemmas.Int.{SFits-int_wrap, to_z-of_z}
use Rattle.std.proofs.lemmas.Nat.{from_le_bytes-to_le_bytes_4, from_le_bytes-to_le_bytes_8}
use Rattle.std.proofs.lemmas.Bool.{cases_lt}
use Rattle.buffa_bytes.specs.Varint.{varint_encoding, shortest}
use Rattle.buffa_bytes.specs.Scalars.{zigzag, unzigzag, varint_as, four_as, eight_as, int64_of, uint32_of, sint32_of, sint64_of, bool_of, bool_encoding, sfixed32_of, sfixed64_of}
use Rattle.buffa_bytes.specs.Values.{int32_of}
use Rattle.buffa_bytes.proofs.VarintLemmas.{varint_complete, IsVarint-varint_encoding}
use Rattle.buffa_bytes.proofs.DelimitedLemmas.{taken_complete}

-- ---- zigzag

pub unzigzag_zigzag : (v : ℤ) → unzigzag (zigzag v) ≡ v
unzigzag_zigzag (pos n) =
    let even : (2 * n) % 2 ≡ 0 = omega arith in
    let half : (2 * n) / 2 ≡ n = omega arith in
    rw (even, half) refl
unzigzag_zigzag (negsuc n) =
    let odd : (2 * n + 1) % 2 ≡ 1 = omega arith in
    let half : (2 * n + 1) / 2 ≡ n = omega arith in
    rw (odd, half) refl

pub zigzag_unzigzag : (n : ℕ) → zigzag (unzigzag n) ≡ n
zigzag_unzigzag n = elim (cases_lt (n % 2) 1) [
  | inl even ↦ let e : n % 2 ≡ 0 = omega arith in rw e (omega arith)
  | inr odd ↦ let e : n % 2 ≡ 1 = omega arith in rw e (omega arith)
]

pub zigzag_fits32 : (v : ℤ) → FitsSigned w32 v → zigzag v < 2 ^ 32
zigzag_fits32 (pos n) h = omega (arith, h.sfits)
zigzag_fits32 (negsuc n) h = omega (arith, h.sfits)

pub zigzag_fits64 : (v : ℤ) → FitsSigned w64 v → zigzag v < 2 ^ 64
zigzag_fits64 (pos n) h = omega (arith, h.sfits)
zigzag_fits64 (negsuc n) h = omega (arith, h.sfits)

pub unzigzag_fits32 : (n : ℕ) → n < 2 ^ 32 → FitsSigned w32 (unzigzag n)
unzigzag_fits32 n h = elim (cases_lt (n % 2) 1) [
  | inl even ↦ let e : n % 2 ≡ 0 = omega arith in rw e (record { sfits = omega (arith, h) })
  | inr odd ↦ let e : n % 2 ≡ 1 = omega arith in rw e (record { sfits = omega (arith, h) })
]

-- ---- the number that is written, and what it means

pub unsigned64_fits : (v : ℤ) → FitsSigned w64 v → cast_unsigned w64 v < 2 ^ 64
unsigned64_fits (pos n) h = omega (arith, h.sfits)
unsigned64_fits (negsuc n) h = omega (arith, h.sfits)

pub unsigned32_fits : (v : ℤ) → FitsSigned w32 v → cast_unsigned w32 v < 2 ^ 32
unsigned32_fits (pos n) h = omega (arith, h.sfits)
unsigned32_fits (negsuc n) h = omega (arith, h.sfits)

pub int64_means : (v : ℤ) → FitsSigned w64 v → int64_of (cast_unsigned w64 v) ≡ v
int64_means v h = to_z-of_z w64 v h

pub uint32_means : (n : ℕ) → n < 2 ^ 32 → uint32_of n ≡ n
uint32_means n h = omega arith

pub sint32_means : (v : ℤ) → FitsSigned w32 v → sint32_of (zigzag v) ≡ v
sint32_means v h = ap unzigzag (uint32_means (zigzag v) (zigzag_fits32 v h)) ∙ unzigzag_zigzag v

pub sint64_means : (v : ℤ) → sint64_of (zigzag v) ≡ v
sint64_means v = unzigzag_zigzag v

pub bool_means : (b : Bool) → bool_of (from_bool b) ≡ b
bool_means true = refl
bool_means false = refl

pub bool_fits : (b : Bool) → from_bool b < 2 ^ 64
bool_fits true = omega arith
bool_fits false = omega arith

pub sfixed32_means : (v : ℤ) → FitsSigned w32 v → sfixed32_of (cast_unsigned w32 v) ≡ v
sfixed32_means v h = to_z-of_z w32 v h

pub sfixed64_means : (v : ℤ) → FitsSigned w64 v → sfixed64_of (cast_unsigned w64 v) ≡ v
sfixed64_means v h = to_z-of_z w64 v h

-- ---- reading back

-- a varint that means v
pub varint_back : {A : Type 0} (of : ℕ → A) (n : ℕ) (v : A) (rest : List ℕ) → n < 2 ^ 64 → of n ≡ v → varint_as of (varint_encoding n ++ rest) ≡ Ok (v, rest)
varint_back of n v rest h e = rw (varint_complete (varint_encoding n) n rest (IsVarint-varint_encoding n h), e) refl

-- four bytes that mean v
pub four_back : {A : Type 0} (of : ℕ → A) (n : ℕ) (v : A) (rest : List ℕ) → n < 2 ^ 32 → of n ≡ v → four_as of (to_le_bytes w32 n ++ rest) ≡ Ok (v, rest)
four_back of n v rest h e = rw (taken_complete 4 (to_le_bytes w32 n) rest refl, from_le_bytes-to_le_bytes_4 n h, e) refl

-- eight bytes that mean v
pub eight_back : {A : Type 0} (of : ℕ → A) (n : ℕ) (v : A) (rest : List ℕ) → n < 2 ^ 64 → of n ≡ v → eight_as of (to_le_bytes w64 n ++ rest) ≡ Ok (v, rest)
eight_back of n v rest h e = rw (taken_complete 8 (to_le_bytes w64 n) rest refl, from_le_bytes-to_le_bytes_8 n h, e) refl

pub bool_length : (b : Bool) → length (bool_encoding b) ≡ 1
unfolding varint_encoding shortest
bool_length true = refl
bool_length false = refl

-- every number is read as an int32
pub int32_fits : (n : ℕ) → FitsSigned w32 (int32_of n)
unfolding int_wrap
int32_fits n = SFits-int_wrap w32 (pos n)
