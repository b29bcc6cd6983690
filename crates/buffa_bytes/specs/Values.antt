-- The encodings of tags and values, and what is read of them.
-- Source: the protobuf encoding guide, "Message Structure", "Signed Integers" and "Length-Delimited Records".
use Rattle.std.specs.Prelude.{ℕ, ℤ, ◌+◌, ◌*◌, ◌%◌, ◌^◌, List, ◌++◌, length, Result, Ok, Err, if◌then◌else◌}
use Rattle.std.specs.Int.{cast_unsigned, cast_signed, w32, w64}
use Rattle.std.specs.Str.{is_utf8}
use Rattle.buffa_bytes.specs.declared.wire_type.WireType.{WireType}
use Rattle.buffa_bytes.specs.declared.error.DecodeError.{DecodeError}
use Rattle.buffa_bytes.specs.declared.error.DecodeError.TheVariants.{InvalidUtf8}
use Rattle.buffa_bytes.specs.Varint.{varint_encoding}
use Rattle.buffa_bytes.specs.Readings.{varint_at, delimited_at, ◌>>=◌}
use Rattle.buffa_bytes.specs.Number.{wire_number}

-- the shortest tag
abbrev pub tag_encoding : ℕ → WireType → List ℕ
tag_encoding f w = varint_encoding (8 * f + wire_number w)

-- a length and the bytes
abbrev pub delimited_encoding : List ℕ → List ℕ
delimited_encoding bytes = varint_encoding (length bytes) ++ bytes

-- the 64-bit two's complement of an int32, as a varint
abbrev pub int32_encoding : ℤ → List ℕ
int32_encoding v = varint_encoding (cast_unsigned w64 v)

-- the low 32 bits of a number, in two's complement
abbrev pub int32_of : ℕ → ℤ
int32_of n = cast_signed w32 (n % 2 ^ 32)

abbrev pub int32_at : List ℕ → Result (ℤ × List ℕ) DecodeError
int32_at bs = varint_at bs >>= (λ n. Ok (int32_of n.0, n.1))

-- these bytes, if they are UTF-8
abbrev pub text_of : List ℕ → Result (List ℕ) DecodeError
text_of bytes = if is_utf8 bytes then Ok bytes else Err InvalidUtf8

abbrev pub string_at : List ℕ → Result (List ℕ × List ℕ) DecodeError
string_at bs = delimited_at bs >>= (λ p. text_of p.0 >>= (λ text. Ok (text, p.1)))
