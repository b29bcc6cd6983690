use Rattle.std.proofs.Common.{◌≡◌, length, map, take}
use Rattle.buffa_map.specs.Encoding.{saturated}
use Rattle.buffa_fields.proofs.members.packed_field.payloads_len.Given as goal
use Rattle.buffa_wire.specs.Encoding.{encodings}

abbrev pub invariant-loop-value : goal.invariant-loop-value
invariant-loop-value g l = l.total ≡ saturated (length (encodings g.C.MapCodec.writing.encoding (map g.C.Value.Blank.meaning (take l.value-index l.values))))
