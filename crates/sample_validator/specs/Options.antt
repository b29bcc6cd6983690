-- What the records of an option say. Source: the protobuf language guide, "Custom Options", and the encoding
-- guide, "Last One Wins".
use Rattle.std.specs.Prelude.{ℕ, ℤ, Bool, List, [], ◌∷◌, map, Option, option_map}
use Rattle.std.specs.List.{flat_map}
use Rattle.buffa_bytes.specs.Values.{int32_of}
use Rattle.buffa_bytes.specs.Scalars.{bool_of}
use Rattle.buffa_bytes.specs.declared.error.DecodeError.{DecodeError}
use Rattle.buffa_bytes.specs.declared.wire_type.WireType.TheVariants.{Varint}
use Rattle.buffa_wire.specs.Records.{FieldData, varint, bytes}
use Rattle.buffa_wire.specs.NumberInRecord.{varint_in}
use Rattle.buffa_codec.specs.Decoded.{last_read, string_held}
use Rattle.buffa_codec.specs.RecordsOfNumber.{sub}
use Rattle.buffa_codec.specs.Strict.{Faultless, FirstFault, unless_found}
use Rattle.buffa_codec.specs.Packed.{numbers_in}

-- an int32 option of number n: what its last varint says, if it has one
abbrev pub int32_option : ℕ → List (ℕ × FieldData) → Option ℤ
int32_option n rs = last_read (λ d. option_map int32_of (varint_in d)) (sub n rs)

-- a bool option
abbrev pub bool_option : ℕ → List (ℕ × FieldData) → Option Bool
bool_option n rs = last_read (λ d. option_map bool_of (varint_in d)) (sub n rs)

-- the fault of a record of an int32 or bool option of number n: it is no varint
abbrev pub varint_fault : ℕ → FieldData → Option DecodeError
varint_fault n d = unless_found (varint_in d) Varint n d

-- each record of the option is read, or this is the fault of the first that isn't
abbrev pub IsReadWhole : ℕ → List (ℕ × FieldData) → Type 0
IsReadWhole n rs = Faultless (varint_fault n) (sub n rs)

abbrev pub IsMalformed : ℕ → List (ℕ × FieldData) → DecodeError → Type 0
IsMalformed n rs e = FirstFault (varint_fault n) (sub n rs) e

-- a string option: the bytes of its last record that is UTF-8
abbrev pub string_option : ℕ → List (ℕ × FieldData) → Option (List ℕ)
string_option n rs = last_read string_held (sub n rs)

-- the numbers of a record of a list: one, or packed ones
abbrev pub int32s_in : FieldData → List ℤ
int32s_in (varint n) = int32_of n ∷ []
int32s_in (bytes bs) = map int32_of (numbers_in Varint bs)
int32s_in _ = []

-- a repeated int32 option: the numbers of all its records
abbrev pub int32_list : ℕ → List (ℕ × FieldData) → List ℤ
int32_list n rs = flat_map int32s_in (sub n rs)
