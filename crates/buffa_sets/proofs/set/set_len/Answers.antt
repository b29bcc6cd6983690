use Rattle.std.proofs.Common.{arith}
use Rattle.buffa_wire.proofs.ByValueLemmas.{length_more}
use Rattle.buffa_wire.specs.RecordsOfValues.{record_of}
use Rattle.buffa_sets.proofs.EncodingLemmas.{set_by_value}
use Rattle.buffa_sets.proofs.set.set_len.Goals as goal

pub loop-field-preserved : goal.loop-field-preserved
loop-field-preserved c =
    omega (
      arith,
      c.loop-field.invariant,
      c.record_len.ensures,
      c.saturating_add-total.ensures,
      length_more set_by_value record_of c.as_slice-field-items.result.now c.loop-field.field-index c.field-item.result c.loop-field-test.true c.field-item.is,
    )
