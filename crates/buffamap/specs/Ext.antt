-- What `ext N` answers: whether a message has records of the number, and what three extensions read of them.
use Rattle.std.specs.Prelude.{◌≡◌, ℕ, ℤ, List, [], ◌∷◌, ◌++◌, codes, map, Option, Some, None, option_map, Result, Ok, Err}
use Rattle.std.specs.Fmt.{signed_decimal}
use Rattle.std.specs.List.{flat_map}
use Rattle.hex.specs.Hex.{encode_lower}
use Rattle.buffa_bytes.specs.declared.error.DecodeError.{DecodeError}
use Rattle.buffa_bytes.specs.declared.wire_type.WireType.TheVariants.{Varint}
use Rattle.buffa_bytes.specs.ErrorText.{decode_error_text}
use Rattle.buffa_wire.specs.NumberInRecord.{varint_in}
use Rattle.buffa_wire.specs.RecordReading.{list_at}
use Rattle.buffa_wire.specs.Records.{FieldData}
use Rattle.buffa_bytes.specs.Values.{int32_of}
use Rattle.buffa_codec.specs.Packed.{numbers_in}
use Rattle.buffa_codec.specs.Decoded.{elements, last_read, string_held}
use Rattle.buffa_codec.specs.RecordsOfNumber.{sub}
use Rattle.buffamap.specs.Forms.{hex_bytes, without_newline}
use Rattle.buffamap.specs.Reply.{Reply, bad_input, success, fault, line}

-- the records of a message, or the first fault: groups nested at most 100 deep, and a million records
abbrev pub records_from : List ℕ → Result (List (ℕ × FieldData)) DecodeError
records_from bytes = list_at 100 1000000 bytes

-- ---- what records of one number are read as

-- one record as an int32, and packed bytes as int32s
abbrev pub int32_held : FieldData → Option ℤ
int32_held d = option_map int32_of (varint_in d)

abbrev pub int32s_packed : List ℕ → List ℤ
int32s_packed bytes = map int32_of (numbers_in Varint bytes)

-- an int32 or a string: the last record that is read as one
abbrev pub int32_of_last : List FieldData → Option ℤ
int32_of_last ds = last_read int32_held ds

abbrev pub string_of_last : List FieldData → Option (List ℕ)
string_of_last ds = last_read string_held ds

-- int32s: those of each record, in order, where one that is none itself may have some packed
abbrev pub int32s_of_each : List FieldData → List ℤ
int32s_of_each ds = flat_map (λ d. elements int32s_packed d (int32_held d)) ds

-- ---- what is printed

abbrev pub has_line : List FieldData → List ℕ
has_line [] = line (codes "has no")
has_line (d ∷ ds) = line (codes "has yes")

abbrev pub int32_line : Option ℤ → List ℕ
int32_line None = line (codes "int32 none")
int32_line (Some v) = line (codes "int32 " ++ signed_decimal v)

abbrev pub string_line : Option (List ℕ) → List ℕ
string_line None = line (codes "string none")
string_line (Some text) = line (codes "string " ++ encode_lower text)

-- each value after a space
abbrev pub words_of : List ℤ → List ℕ
words_of vs = flat_map (λ v. 32 ∷ signed_decimal v) vs

abbrev pub ints_line : List ℤ → List ℕ
ints_line vs = line (codes "ints" ++ words_of vs)

-- the lines of the records of the number
abbrev pub ext_text : List FieldData → List ℕ
ext_text ds =
    ((has_line ds ++ int32_line (int32_of_last ds))
    ++ string_line (string_of_last ds)) ++ ints_line (int32s_of_each ds)

abbrev pub IsShown : ℕ → Result (List (ℕ × FieldData)) DecodeError → Reply → Type 0
IsShown n (Ok records) reply = reply ≡ success (ext_text (sub n records))
IsShown n (Err f) reply = reply ≡ fault (decode_error_text f)

abbrev pub IsShownOf : ℕ → Option (List ℕ) → Reply → Type 0
IsShownOf n None reply = reply ≡ bad_input
IsShownOf n (Some bytes) reply = IsShown n (records_from bytes) reply

-- the input is the message in hexadecimal, which one newline may end
abbrev pub RepliesToExt : ℕ → List ℕ → Reply → Type 0
RepliesToExt n input = IsShownOf n (hex_bytes (without_newline input))
