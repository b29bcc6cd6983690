use Rattle.std.proofs.Common.{◌≡◌, ◌++◌, map, take}
use Rattle.buffa_fields.proofs.members.packed_field.write_payloads.Given as goal
use Rattle.buffa_wire.specs.Encoding.{encodings}

abbrev pub invariant-loop-value : goal.invariant-loop-value
invariant-loop-value g l = g.S.EncodeSink.written l.sink ≡ g.S.EncodeSink.written l.fn.sink ++ encodings g.C.MapCodec.writing.encoding (map g.C.Value.Blank.meaning (take l.value-index l.values))
