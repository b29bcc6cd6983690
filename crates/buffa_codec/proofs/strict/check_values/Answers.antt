use Rattle.std.proofs.Common.{ap, ◌∙◌}
use Rattle.buffa_wire.specs.RecordsOfValues.{records_in}
use Rattle.buffa_codec.proofs.StrictLemmas.{fault_here, faultless_more, faultless_other}
use Rattle.buffa_codec.proofs.strict.check_values.Goals.{then-field-number+in-None, else-field-number}
use Rattle.buffa_codec.proofs.strict.check_values.Goals as goal

pub loop-field-preserved : goal.loop-field-preserved
loop-field-preserved g c =
    elim c.if-field-number.branch [
      | then-field-number+in-None w ↦
          faultless_more c.args.number c.as_slice-field-items.result.now c.loop-field.field-index c.field-item.result c.loop-field-test.true c.field-item.is
          (g.C.StrictSingularCodec.fault c.args.number) w.if-field-number.true c.loop-field.invariant w.in-None.ensures
      | else-field-number w ↦
          faultless_other c.args.number c.as_slice-field-items.result.now c.loop-field.field-index c.field-item.result c.loop-field-test.true c.field-item.is
          (g.C.StrictSingularCodec.fault c.args.number) w.if-field-number.false c.loop-field.invariant
    ]

pub returns-in-Some-clause-fault : goal.returns-in-Some-clause-fault
returns-in-Some-clause-fault g c =
    fault_here c.args.number c.as_slice-field-items.result.now c.loop-field.field-index c.field-item.result c.loop-field-test.true c.field-item.is
    (g.C.StrictSingularCodec.fault c.args.number) c.in-Some.error c.args.fields.now.records c.if-field-number.true (ap records_in c.as_slice-field-items.ensures.value ∙ c.iter.ensures)
    c.loop-field.invariant c.in-Some.ensures
