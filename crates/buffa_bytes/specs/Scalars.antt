-- Scalars: what is written of each, what the number in a payload means, and what is read.
-- Source: the protobuf encoding guide, "Base 128 Varints", "Bools and Enums", "Signed Integers" and
-- "Non-varint Numbers".
use Rattle.std.specs.Prelude.{ℕ, ℤ, pos, negsuc, ◌+◌, ◌*◌, ◌/◌, ◌%◌, ◌^◌, ◌==◌, Bool, true, false, List, Result, Ok, if◌then◌else◌}
use Rattle.std.specs.Int.{cast_unsigned, cast_signed, from_bool, from_le_bytes, to_le_bytes, w32, w64}
use Rattle.buffa_bytes.specs.declared.error.DecodeError.{DecodeError}
use Rattle.buffa_bytes.specs.Varint.{varint_encoding}
use Rattle.buffa_bytes.specs.Readings.{varint_at, taken, ◌>>=◌}
pub use Rattle.buffa_bytes.specs.Values.{int32_encoding, int32_of, int32_at}

-- ---- zigzag: signed numbers of small magnitude as small numbers

-- 2v where v is 0 or more, else -2v - 1; negsuc n is -(n + 1)
abbrev pub zigzag : ℤ → ℕ
zigzag (pos n) = 2 * n
zigzag (negsuc n) = 2 * n + 1

-- the number whose zigzag n is
abbrev pub unzigzag : ℕ → ℤ
unzigzag n = if n % 2 == 0 then pos (n / 2) else negsuc (n / 2)

-- ---- varints

-- what a varint means by of, and what follows it
abbrev pub varint_as : {A : Type 0} → (ℕ → A) → List ℕ → Result (A × List ℕ) DecodeError
varint_as of bs = varint_at bs >>= (λ n. Ok (of n.0, n.1))

abbrev pub int64_encoding : ℤ → List ℕ
int64_encoding v = varint_encoding (cast_unsigned w64 v)

abbrev pub int64_of : ℕ → ℤ
int64_of n = cast_signed w64 n

abbrev pub uint32_encoding : ℕ → List ℕ
uint32_encoding n = varint_encoding n

-- the low 32 bits
abbrev pub uint32_of : ℕ → ℕ
uint32_of n = n % 2 ^ 32

abbrev pub uint64_encoding : ℕ → List ℕ
uint64_encoding n = varint_encoding n

abbrev pub uint64_of : ℕ → ℕ
uint64_of n = n

abbrev pub sint32_encoding : ℤ → List ℕ
sint32_encoding v = varint_encoding (zigzag v)

-- the zigzag in the low 32 bits
abbrev pub sint32_of : ℕ → ℤ
sint32_of n = unzigzag (n % 2 ^ 32)

abbrev pub sint64_encoding : ℤ → List ℕ
sint64_encoding v = varint_encoding (zigzag v)

abbrev pub sint64_of : ℕ → ℤ
sint64_of n = unzigzag n

-- 1 for true, 0 for false
abbrev pub bool_encoding : Bool → List ℕ
bool_encoding b = varint_encoding (from_bool b)

-- anything but 0 is true
abbrev pub bool_of : ℕ → Bool
bool_of n = if n == 0 then false else true

abbrev pub int64_at : List ℕ → Result (ℤ × List ℕ) DecodeError
int64_at = varint_as int64_of

abbrev pub uint32_at : List ℕ → Result (ℕ × List ℕ) DecodeError
uint32_at = varint_as uint32_of

abbrev pub uint64_at : List ℕ → Result (ℕ × List ℕ) DecodeError
uint64_at = varint_as uint64_of

abbrev pub sint32_at : List ℕ → Result (ℤ × List ℕ) DecodeError
sint32_at = varint_as sint32_of

abbrev pub sint64_at : List ℕ → Result (ℤ × List ℕ) DecodeError
sint64_at = varint_as sint64_of

abbrev pub bool_at : List ℕ → Result (Bool × List ℕ) DecodeError
bool_at = varint_as bool_of

-- ---- four or eight bytes, the lowest first

-- what four bytes mean by of, and what follows them
abbrev pub four_as : {A : Type 0} → (ℕ → A) → List ℕ → Result (A × List ℕ) DecodeError
four_as of bs = taken 4 bs >>= (λ p. Ok (of (from_le_bytes w32 p.0), p.1))

-- what eight bytes mean by of, and what follows them
abbrev pub eight_as : {A : Type 0} → (ℕ → A) → List ℕ → Result (A × List ℕ) DecodeError
eight_as of bs = taken 8 bs >>= (λ p. Ok (of (from_le_bytes w64 p.0), p.1))

abbrev pub fixed32_encoding : ℕ → List ℕ
fixed32_encoding n = to_le_bytes w32 n

abbrev pub fixed32_of : ℕ → ℕ
fixed32_of n = n

abbrev pub fixed64_encoding : ℕ → List ℕ
fixed64_encoding n = to_le_bytes w64 n

abbrev pub fixed64_of : ℕ → ℕ
fixed64_of n = n

abbrev pub sfixed32_encoding : ℤ → List ℕ
sfixed32_encoding v = to_le_bytes w32 (cast_unsigned w32 v)

abbrev pub sfixed32_of : ℕ → ℤ
sfixed32_of n = cast_signed w32 n

abbrev pub sfixed64_encoding : ℤ → List ℕ
sfixed64_encoding v = to_le_bytes w64 (cast_unsigned w64 v)

abbrev pub sfixed64_of : ℕ → ℤ
sfixed64_of n = cast_signed w64 n

abbrev pub fixed32_at : List ℕ → Result (ℕ × List ℕ) DecodeError
fixed32_at = four_as fixed32_of

abbrev pub fixed64_at : List ℕ → Result (ℕ × List ℕ) DecodeError
fixed64_at = eight_as fixed64_of

abbrev pub sfixed32_at : List ℕ → Result (ℤ × List ℕ) DecodeError
sfixed32_at = four_as sfixed32_of

abbrev pub sfixed64_at : List ℕ → Result (ℤ × List ℕ) DecodeError
sfixed64_at = eight_as sfixed64_of
