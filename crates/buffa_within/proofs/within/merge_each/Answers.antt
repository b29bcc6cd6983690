use Rattle.std.proofs.Common.{true, sym, ap, ◌∙◌}
use Rattle.std.proofs.lemmas.Result.{err_from_is_err_and}
use Rattle.buffa_wire.specs.RecordsOfValues.{records_in}
use Rattle.buffa_codec.specs.Strict.{IsFaultOrFull}
use Rattle.buffa_codec.proofs.StrictLemmas.{faultless_more, faultless_other}
use Rattle.buffa_ext.specs.Strict.{MessageRecordFault, kind_fault}
use Rattle.buffa_ext.proofs.MergeLemmas.{one_more, passed_over}
use Rattle.buffa_ext.proofs.StrictLemmas.{or_true, reaches_here}
use Rattle.buffa_within.proofs.WithinLemmas.{most_here}
use Rattle.buffa_within.proofs.within.merge_each.Goals.{then-field-number+in_ok-merge_one, else-field-number}
use Rattle.buffa_within.proofs.within.merge_each.Goals as goal

pub loop-field-preserved : goal.loop-field-preserved
loop-field-preserved g c =
    let m = g.M.Blank.meaning in
    let kind = kind_fault g.K.MessageRecord.held g.K.MessageRecord.WIRE_TYPE c.args.number in
    elim c.if-field-number.branch [
      | then-field-number+in_ok-merge_one w ↦ record {
        merged = one_more g.K.MessageRecord.held c.args.number c.as_slice-field-items.result.now c.loop-field.field-index c.field-item.result c.loop-field-test.true c.field-item.is
            (g.M.MessageSpec.merged c.args.depth) (g.M.MessageSpec.cost c.args.depth) (m c.args.message.now) (m c.loop-field.message) c.args.budget.now c.loop-field.budget c.loop-field.found c.loop-field.invariant.merged
            (m w.merge_one.new.message) (m c.if-field-number.message) w.merge_one.new.budget c.if-field-number.budget true c.if-field-number.found
            w.if-field-number.true (ap m w.message-is) w.budget-is (w.found-is ∙ sym (or_true c.loop-field.found)) w.in_ok-merge_one.ensures.merged;
        kinds = faultless_more c.args.number c.as_slice-field-items.result.now c.loop-field.field-index c.field-item.result c.loop-field-test.true c.field-item.is
            kind w.if-field-number.true c.loop-field.invariant.kinds (sym w.in_ok-merge_one.ensures.kind);
      }
      | else-field-number w ↦ record {
        merged = passed_over g.K.MessageRecord.held c.args.number c.as_slice-field-items.result.now c.loop-field.field-index c.field-item.result c.loop-field-test.true c.field-item.is
            (g.M.MessageSpec.merged c.args.depth) (g.M.MessageSpec.cost c.args.depth) (m c.args.message.now) (m c.loop-field.message) c.args.budget.now c.loop-field.budget c.loop-field.found c.loop-field.invariant.merged
            (m c.if-field-number.message) c.if-field-number.budget c.if-field-number.found
            w.if-field-number.false (ap m w.message-is) w.budget-is w.found-is;
        kinds = faultless_other c.args.number c.as_slice-field-items.result.now c.loop-field.field-index c.field-item.result c.loop-field-test.true c.field-item.is
            kind w.if-field-number.false c.loop-field.invariant.kinds;
      }
    ]

pub returns-in_err-merge_one-clause-fault : goal.returns-in_err-merge_one-clause-fault
returns-in_err-merge_one-clause-fault g c =
    let merged = g.M.MessageSpec.merged c.args.depth in
    let cost = g.M.MessageSpec.cost c.args.depth in
    let p = err_from_is_err_and c.from_residual.result c.from_residual.ensures.1 in
    rw (p.1, p.2) (reaches_here g.K.MessageRecord.held c.args.number c.as_slice-field-items.result.now c.loop-field.field-index c.field-item.result c.loop-field-test.true c.field-item.is
    merged cost g.K.MessageRecord.WIRE_TYPE
    (λ d mid left. IsFaultOrFull (MessageRecordFault merged cost g.K.MessageRecord.held g.K.MessageRecord.WIRE_TYPE c.args.number d mid left) (g.K.MessageRecord.asks c.args.depth d) c.in_err-merge_one.field-0.0)
    (g.M.Blank.meaning c.args.message.now) (g.M.Blank.meaning c.loop-field.message) c.args.budget.now c.loop-field.budget c.loop-field.found c.args.fields.now.records
    c.if-field-number.true (ap records_in c.as_slice-field-items.ensures.value ∙ c.iter.ensures) c.loop-field.invariant.kinds c.loop-field.invariant.merged c.in_err-merge_one.ensures.fault)

pub returns-in_err-merge_one-clause-most : goal.returns-in_err-merge_one-clause-most
returns-in_err-merge_one-clause-most g c =
    let p = err_from_is_err_and c.from_residual.result c.from_residual.ensures.1 in
    rw p.1 (most_here g.K.MessageRecord.held c.args.number c.as_slice-field-items.result.now c.loop-field.field-index c.field-item.result c.loop-field-test.true c.field-item.is
    (g.M.MessageSpec.merged c.args.depth) (g.M.MessageSpec.cost c.args.depth) (g.M.Blank.meaning c.args.message.now) (g.M.Blank.meaning c.loop-field.message)
    c.args.budget.now c.loop-field.budget c.merge_one.new.budget c.loop-field.found c.args.fields.now.records
    c.if-field-number.true (ap records_in c.as_slice-field-items.ensures.value ∙ c.iter.ensures) c.loop-field.invariant.merged c.in_err-merge_one.ensures.most)
