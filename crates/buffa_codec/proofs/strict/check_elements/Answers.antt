use Rattle.std.proofs.Common.{ap, sym, subst, ◌∙◌}
use Rattle.std.proofs.lemmas.Result.{err_from_is_err_and}
use Rattle.buffa_wire.specs.BudgetLeft.{defaults}
use Rattle.buffa_wire.specs.RecordsOfValues.{field_data_of, records_in}
use Rattle.buffa_codec.proofs.StrictLemmas.{element_fault_here, element_more, element_other}
use Rattle.buffa_codec.proofs.strict.check_elements.Goals.{then-field-number+in_ok-check_element, else-field-number}
use Rattle.buffa_codec.proofs.strict.check_elements.Goals as goal

pub loop-field-preserved : goal.loop-field-preserved
loop-field-preserved g c =
    let t = g.C.StrictElementCodec in
    elim c.if-field-number.branch [
      | then-field-number+in_ok-check_element w ↦
          element_more c.args.number c.as_slice-field-items.result.now c.loop-field.field-index c.field-item.result c.loop-field-test.true c.field-item.is
          (t.IsElement c.args.number) (g.C.SingularCodec.leaves 100) defaults c.loop-field.budget c.loop-field.invariant c.if-field-number.budget
          w.if-field-number.true w.in_ok-check_element.ensures.element
          (subst (g.C.SingularCodec.leaves 100 c.loop-field.budget (field_data_of c.field-item.result.payload)) (sym w.budget-is) w.in_ok-check_element.ensures.leaves)
      | else-field-number w ↦
          element_other c.args.number c.as_slice-field-items.result.now c.loop-field.field-index c.field-item.result c.loop-field-test.true c.field-item.is
          (t.IsElement c.args.number) (g.C.SingularCodec.leaves 100) defaults c.loop-field.budget c.loop-field.invariant c.if-field-number.budget
          w.if-field-number.false w.budget-is
    ]

pub returns-in_err-check_element-clause-fault : goal.returns-in_err-check_element-clause-fault
returns-in_err-check_element-clause-fault g c =
    let t = g.C.StrictElementCodec in
    let p = err_from_is_err_and c.from_residual.result c.from_residual.ensures.1 in
    rw (p.1, p.2) (element_fault_here c.args.number c.as_slice-field-items.result.now c.loop-field.field-index c.field-item.result c.loop-field-test.true c.field-item.is
    (t.IsElement c.args.number) (g.C.SingularCodec.leaves 100) defaults c.loop-field.budget c.loop-field.invariant
    (t.ElementFault c.args.number) g.C.SingularCodec.asks c.in_err-check_element.field-0.0 c.args.fields.now.records c.if-field-number.true
    (ap records_in c.as_slice-field-items.ensures.value ∙ c.iter.ensures) c.in_err-check_element.ensures.fault)
