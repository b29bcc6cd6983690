use Rattle.std.proofs.Common.{arith}
use Rattle.buffa_wire.proofs.ByValueLemmas.{encodings_by_value, length_more}
use Rattle.buffa_fields.proofs.members.packed_field.payloads_len.Goals as goal

pub loop-value-preserved : goal.loop-value-preserved
loop-value-preserved g c =
    omega (
      arith,
      c.loop-value.invariant,
      c.encoded_len.ensures.len,
      c.saturating_add-total.ensures,
      length_more (encodings_by_value g.C.MapCodec.writing.encoding) g.C.Value.Blank.meaning c.args.values.now c.loop-value.value-index c.value-item.result c.loop-value-test.true c.value-item.is,
    )
