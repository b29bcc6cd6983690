use Rattle.std.proofs.Common.{arith}
use Rattle.buffa_fields.proofs.PackedLemmas.{packed_nothing, packed_sized}
use Rattle.buffa_fields.proofs.members.packed_field.packed_len.Goals as goal

pub returns-then-values-eq0 : goal.returns-then-values-eq0
returns-then-values-eq0 g c = packed_nothing g.C.MapCodec.writing.encoding c.args.number g.C.Value.Blank.meaning c.args.values.now (omega arith)

pub returns : goal.returns
returns g c =
    packed_sized g.C.MapCodec.writing.encoding c.args.number g.C.Value.Blank.meaning c.args.values.now (omega arith) c.payloads_len.result c.record_len.result c.payloads_len.ensures c.record_len.ensures
