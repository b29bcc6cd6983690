-- What is printed of an error: its name, and what it holds in decimal, wire types as their numbers.
use Rattle.std.specs.Prelude.{ℕ, List, ◌++◌, codes}
use Rattle.std.specs.Fmt.{decimal}
use Rattle.buffa_bytes.specs.Number.{wire_number}
use Rattle.buffa_bytes.specs.declared.error.MessageSetFault.{MessageSetFault}
use Rattle.buffa_bytes.specs.declared.error.MessageSetFault.TheVariants.{MissingTypeId, TypeIdOutOfRange}
use Rattle.buffa_bytes.specs.declared.error.DecodeError.{DecodeError}
use Rattle.buffa_bytes.specs.declared.error.DecodeError.TheVariants as decode
use Rattle.buffa_bytes.specs.declared.error.EncodeError.{EncodeError}
use Rattle.buffa_bytes.specs.declared.error.EncodeError.TheVariants as encode

-- the text of what is wrong with an Item
abbrev pub message_set_fault_text : MessageSetFault → List ℕ
message_set_fault_text MissingTypeId = codes "missing type_id"
message_set_fault_text TypeIdOutOfRange = codes "type_id out of range"

-- the text of a refusal of bytes
abbrev pub decode_error_text : DecodeError → List ℕ
decode_error_text decode.UnexpectedEof = codes "UnexpectedEof"
decode_error_text decode.VarintTooLong = codes "VarintTooLong"
decode_error_text decode.InvalidFieldNumber = codes "InvalidFieldNumber"
decode_error_text (decode.InvalidWireType number) = codes "InvalidWireType " ++ decimal number
decode_error_text (decode.WireTypeMismatch number expected actual) =
    codes "WireTypeMismatch " ++ decimal number ++ codes " " ++ decimal (wire_number expected) ++ codes " " ++ decimal (wire_number actual)
decode_error_text decode.InvalidUtf8 = codes "InvalidUtf8"
decode_error_text decode.MessageTooLarge = codes "MessageTooLarge"
decode_error_text decode.RecursionLimitExceeded = codes "RecursionLimitExceeded"
decode_error_text decode.UnknownFieldLimitExceeded = codes "UnknownFieldLimitExceeded"
decode_error_text decode.ElementMemoryLimitExceeded = codes "ElementMemoryLimitExceeded"
decode_error_text (decode.InvalidEndGroup number) = codes "InvalidEndGroup " ++ decimal number
decode_error_text (decode.InvalidMessageSet what) = codes "InvalidMessageSet " ++ message_set_fault_text what
decode_error_text (decode.UnexpectedField number) = codes "UnexpectedField " ++ decimal number
decode_error_text decode.OutOfMemory = codes "OutOfMemory"

-- the text of a refusal to write
abbrev pub encode_error_text : EncodeError → List ℕ
encode_error_text encode.MessageTooLarge = codes "MessageTooLarge"
encode_error_text (encode.GroupRefused inner) = codes "GroupRefused " ++ decode_error_text inner
encode_error_text encode.OutOfMemory = codes "OutOfMemory"
