use Rattle.buffa_wire.specs.RecordsOfValues.{records_in, field_data_of}
use Rattle.buffa_codec.specs.Decoded.{AsksInList}
use Rattle.buffa_codec.proofs.TakesLemmas.{has_record}
use Rattle.std.proofs.Common.{sym, ap, ◌∙◌, subst, map}
use Rattle.buffa_wire.specs.BudgetLeft.{defaults}
use Rattle.buffa_codec.proofs.TurnLemmas.{reads_one_more, passes_one_over}
use Rattle.buffa_codec.proofs.repeated.RepeatedExtensionCodec.decode.Goals.{then-field-number+in_ok-read_one, else-field-number}
use Rattle.buffa_codec.proofs.repeated.RepeatedExtensionCodec.decode.Goals as goal

pub loop-field-preserved : goal.loop-field-preserved
loop-field-preserved g c =
    let t = g.C.SingularCodec in
    elim c.if-field-number.branch [
      | then-field-number+in_ok-read_one w ↦
          reads_one_more (t.one 100) (t.leaves 100) t.packed defaults c.args.number c.as_slice-field-items.result.now c.loop-field.field-index c.field-item.result
          (map g.C.Value.Blank.meaning c.loop-field.out.items) (map g.C.Value.Blank.meaning c.if-field-number.out.items) c.loop-field.budget c.if-field-number.budget
          c.loop-field-test.true c.field-item.is w.if-field-number.true c.loop-field.invariant
          (subst (t.leaves 100 c.loop-field.budget (field_data_of c.field-item.result.payload)) (sym w.budget-is) w.in_ok-read_one.ensures.leaves)
          (ap (λ o. map g.C.Value.Blank.meaning o.items) w.out-is ∙ w.in_ok-read_one.ensures.values)
      | else-field-number w ↦
          passes_one_over (t.one 100) (t.leaves 100) t.packed defaults c.args.number c.as_slice-field-items.result.now c.loop-field.field-index c.field-item.result
          (map g.C.Value.Blank.meaning c.loop-field.out.items) (map g.C.Value.Blank.meaning c.if-field-number.out.items) c.loop-field.budget c.if-field-number.budget
          c.loop-field-test.true c.field-item.is w.if-field-number.false (ap (λ o. map g.C.Value.Blank.meaning o.items) w.out-is) w.budget-is c.loop-field.invariant
    ]

pub returns-in_err-read_one-clause-full : goal.returns-in_err-read_one-clause-full
returns-in_err-read_one-clause-full g c =
    let t = g.C.SingularCodec in
    has_record c.from_residual.result (AsksInList t.asks (t.one 100) t.packed) c.args.number c.as_slice-field-items.result.now c.loop-field.field-index c.field-item.result c.args.fields.now.records
    c.loop-field-test.true c.field-item.is c.if-field-number.true (ap records_in c.as_slice-field-items.ensures.value ∙ c.iter.ensures) c.in_err-read_one.ensures.full
