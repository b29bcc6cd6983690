use Rattle.std.proofs.Common.{◌≡◌, length, map, take}
use Rattle.buffa_wire.specs.Passes.{cap}
use Rattle.buffa_wire.specs.Encoding.{records_encoding}
use Rattle.buffa_fields.specs.Lists.{element_records}
use Rattle.buffa_fields.proofs.members.list.elements_len.Given as goal

abbrev pub invariant-loop-value : goal.invariant-loop-value
invariant-loop-value g l = l.total ≡ cap (length (records_encoding (element_records g.C.ProtoType.field_data l.number (map g.C.Value.Blank.meaning (take l.value-index l.values)))))
