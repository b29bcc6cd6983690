-- How scalars, strings and bytes are read and written: a number, a string or bytes in a payload, which
-- means a value and takes the place of what stood.
-- Source: the protobuf encoding guide, "Message Structure" and "Length-Delimited Records".
use Rattle.std.specs.Prelude.{◌≡◌, ℕ, ℤ, pos, ◌<◌, ◌^◌, true, false, List, [], length, Ok}
use Rattle.std.specs.Int.{cast_unsigned, to_le_bytes, w32, w64}
use Rattle.std.specs.Str.{is_utf8}
use Rattle.buffa_bytes.specs.Readings.{◌>>=◌}
use Rattle.buffa_bytes.specs.PayloadValue.{number_in, bytes_in}
use Rattle.buffa_wire.specs.BudgetLeft.{nothing}
use Rattle.buffa_bytes.specs.Values.{delimited_encoding, int32_of}
use Rattle.buffa_bytes.specs.Varint.{varint_encoding}
use Rattle.buffa_bytes.specs.Delimited.{text_as}
use Rattle.buffa_bytes.specs.declared.wire_type.WireType.{WireType}
use Rattle.buffa_bytes.specs.declared.wire_type.WireType.TheVariants.{Varint, Fixed64, LengthDelimited, Fixed32}
use Rattle.buffa_map.specs.Codec.{Reading, Writing}

-- ---- reading: the value starts as blank, and what the payload holds means a value by of

-- the number in a payload of wire type w
abbrev pub number_reading : {V : Type 0} → WireType → V → (ℕ → V) → Reading V
number_reading w blank of = record { blank = blank; wire = w; reads = λ d old c. Ok (of (number_in c), true); nested = false; undeclared = false; takes_memory = false; cost = λ d c. nothing }

abbrev pub bytes_reading : {V : Type 0} → V → (List ℕ → V) → Reading V
bytes_reading blank of = record { blank = blank; wire = LengthDelimited; reads = λ d old c. Ok (of (bytes_in c), true); nested = false; undeclared = false; takes_memory = true; cost = λ d c. nothing }

-- bytes that are UTF-8
abbrev pub string_reading : {V : Type 0} → V → (List ℕ → V) → Reading V
string_reading blank of = record { blank = blank; wire = LengthDelimited; reads = λ d old c. text_as of (bytes_in c) >>= (λ v. Ok (v, true)); nested = false; undeclared = false; takes_memory = true; cost = λ d c. nothing }

-- ---- writing: the number, or the bytes, of a value

-- the number of a value, spelled as the payload of wire type w
abbrev pub number_writing : {V : Type 0} → WireType → (ℕ → List ℕ) → (V → ℕ) → Writing V
number_writing w payload num = record { wire = w; encoding = λ v. payload (num v) }

abbrev pub varint_writing : {V : Type 0} → (V → ℕ) → Writing V
varint_writing num = record { wire = Varint; encoding = λ v. varint_encoding (num v) }

-- four bytes, the lowest first
abbrev pub four_writing : {V : Type 0} → (V → ℕ) → Writing V
four_writing num = record { wire = Fixed32; encoding = λ v. to_le_bytes w32 (num v) }

-- eight bytes, the lowest first
abbrev pub eight_writing : {V : Type 0} → (V → ℕ) → Writing V
eight_writing num = record { wire = Fixed64; encoding = λ v. to_le_bytes w64 (num v) }

-- a length and the bytes
abbrev pub delimited_writing : {V : Type 0} → (V → List ℕ) → Writing V
delimited_writing bytes = record { wire = LengthDelimited; encoding = λ v. delimited_encoding (bytes v) }

-- ---- int32, and strings as their bytes

abbrev pub int32_reading : Reading ℤ
int32_reading = number_reading Varint (pos 0) int32_of

abbrev pub int32_writing : Writing ℤ
int32_writing = varint_writing (cast_unsigned w64)

abbrev pub text_reading : Reading (List ℕ)
text_reading = string_reading [] (λ text. text)

abbrev pub text_writing : Writing (List ℕ)
text_writing = delimited_writing (λ text. text)

-- ---- what a type holds

-- as many bytes as a length can say
abbrev pub IsLengthy : List ℕ → Type 0
IsLengthy bytes = length bytes < 2 ^ 64

-- the bytes of a string
abbrev pub IsText : List ℕ → Type 0
IsText bytes = (is_utf8 bytes ≡ true) × IsLengthy bytes
