-- Single fields of the samples: how each is read, and its encoding.
-- Source: the protobuf encoding guide, "Message Structure".
use Rattle.std.specs.Prelude.{ℕ, zero, suc, ◌==◌, ℤ, pos, negsuc, List, [], ◌∷◌, ◌++◌, Result, Ok, if◌then◌else◌}
use Rattle.buffa_bytes.specs.Readings.{check_wire, skip_at, varint_at, ◌>>=◌}
use Rattle.buffa_wire.specs.ByField.{FieldReader}
use Rattle.buffa_wire.specs.Records.{FieldData, varint}
use Rattle.buffa_bytes.specs.Values.{int32_at, int32_encoding, tag_encoding}
use Rattle.std.specs.Int.{cast_unsigned, w64}
use Rattle.buffa_bytes.specs.declared.wire_type.WireType.{WireType}
use Rattle.buffa_bytes.specs.declared.wire_type.WireType.TheVariants.{Varint}
use Rattle.buffa_bytes.specs.declared.error.DecodeError.{DecodeError}

-- a varint field of number n, whose value is put where it belongs
abbrev pub varint_field : {X : Type 0} → ℕ → (ℕ → X) → WireType → List ℕ → Result (X × List ℕ) DecodeError
varint_field n put w bs = check_wire n Varint w >>= (λ _. varint_at bs >>= (λ x. Ok (put x.0, x.1)))

-- an int32 field of number n, whose value is put where it belongs
abbrev pub int32_field : {X : Type 0} → ℕ → (ℤ → X) → WireType → List ℕ → Result (X × List ℕ) DecodeError
int32_field n put w bs = check_wire n Varint w >>= (λ _. int32_at bs >>= (λ x. Ok (put x.0, x.1)))

-- a field that is passed over
abbrev pub skipped_field : {X : Type 0} → ℕ → X → ℕ → WireType → List ℕ → Result (X × List ℕ) DecodeError
skipped_field d v n w bs = skip_at d n w bs >>= (λ rest. Ok (v, rest))

-- a field of number 1 is the value, an int32, and any other is passed over
abbrev pub value_field : ℕ → FieldReader ℤ
value_field d v n w bs = if n == 1 then int32_field 1 (λ x. x) w bs else skipped_field d v n w bs

-- the encoding of an int32 field of number n, which isn't written at 0
abbrev pub number_encoding : ℕ → ℤ → List ℕ
number_encoding n (pos zero) = []
number_encoding n (pos (suc k)) = tag_encoding n Varint ++ int32_encoding (pos (suc k))
number_encoding n (negsuc k) = tag_encoding n Varint ++ int32_encoding (negsuc k)

-- its record
abbrev pub number_records : ℕ → ℤ → List (ℕ × FieldData)
number_records n (pos zero) = []
number_records n (pos (suc k)) = (n, varint (cast_unsigned w64 (pos (suc k)))) ∷ []
number_records n (negsuc k) = (n, varint (cast_unsigned w64 (negsuc k))) ∷ []

-- the same of field 1
abbrev pub value_encoding : ℤ → List ℕ
value_encoding v = number_encoding 1 v

abbrev pub value_records : ℤ → List (ℕ × FieldData)
value_records v = number_records 1 v
