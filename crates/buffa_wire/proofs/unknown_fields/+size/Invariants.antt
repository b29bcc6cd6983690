use Rattle.std.proofs.Common.{◌≡◌, min, length, take}
use Rattle.buffa_wire.specs.RecordsOfValues.{records_in}
use Rattle.buffa_wire.specs.Encoding.{records_encoding}
use Rattle.buffa_wire.proofs.unknown_fields.+size.Given as goal

abbrev pub invariant-UnknownFields::encoded_len-loop-field : goal.invariant-UnknownFields::encoded_len-loop-field
invariant-UnknownFields::encoded_len-loop-field l = l.total ≡ min (length (records_encoding (records_in (take l.field-index l.field-items)))) 18446744073709551615
