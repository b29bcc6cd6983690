use Rattle.std.proofs.Common.{◌≡◌, ◌++◌, map, take}
use Rattle.buffa_wire.specs.Encoding.{records_encoding}
use Rattle.buffa_fields.specs.Lists.{element_records}
use Rattle.buffa_fields.proofs.members.list.write_elements.Given as goal

abbrev pub invariant-loop-value : goal.invariant-loop-value
invariant-loop-value g l = g.S.EncodeSink.written l.sink ≡ g.S.EncodeSink.written l.fn.sink ++ records_encoding (element_records g.C.ProtoType.field_data l.number (map g.C.Value.Blank.meaning (take l.value-index l.values)))
