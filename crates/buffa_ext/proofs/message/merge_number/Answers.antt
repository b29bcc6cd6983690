use Rattle.std.proofs.Common.{◌∙◌, ap}
use Rattle.std.proofs.lemmas.Result.{err_from_is_err_and}
use Rattle.buffa_wire.specs.RecordsOfValues.{records_in}
use Rattle.buffa_ext.specs.Messages.{PartlyMergedRecord}
use Rattle.buffa_ext.proofs.MergeLemmas.{one_more, passed_over, partly_merged_here, stops_here}
use Rattle.buffa_ext.proofs.message.merge_number.Goals.{then-field-number+in_ok-found, else-field-number}
use Rattle.buffa_ext.proofs.message.merge_number.Goals as goal

pub returns-in_err-found-clause-merged : goal.returns-in_err-found-clause-merged
returns-in_err-found-clause-merged g c =
    let p = err_from_is_err_and c.from_residual.result c.from_residual.ensures.1 in
    rw (p.1, p.2) (stops_here g.K.MessageRecord.held c.args.number c.as_slice-field-items.result.now c.loop-field.field-index c.field-item.result c.loop-field-test.true c.field-item.is
    (g.M.MessageSpec.merged 100) (g.M.MessageSpec.cost 100) (g.M.Blank.meaning c.args.message.now) (g.M.Blank.meaning c.loop-field.message) c.args.budget.now c.loop-field.budget c.loop-field.found c.loop-field.invariant
    (g.K.MessageRecord.asks 100) (g.M.Blank.meaning c.merge_in.new.message) c.merge_in.new.ctx.1.0 c.in_err-found.field-0.0 c.args.fields.now.records c.if-field-number.true
    (ap records_in c.as_slice-field-items.ensures.value ∙ c.iter.ensures) c.in_err-found.ensures.merged c.in_err-found.ensures.encoding c.in_err-found.ensures.full)

pub returns-in_err-found-clause-partly : goal.returns-in_err-found-clause-partly
returns-in_err-found-clause-partly g c =
    let p = err_from_is_err_and c.from_residual.result c.from_residual.ensures.1 in
    rw (p.1, p.2) (partly_merged_here g.K.MessageRecord.held c.args.number c.as_slice-field-items.result.now c.loop-field.field-index c.field-item.result c.loop-field-test.true c.field-item.is
    (g.M.MessageSpec.merged 100) (g.M.MessageSpec.cost 100) (g.M.Blank.meaning c.args.message.now) (g.M.Blank.meaning c.loop-field.message) c.args.budget.now c.loop-field.budget c.loop-field.found c.loop-field.invariant
    (g.K.MessageRecord.asks 100) (PartlyMergedRecord g.M.MessageSpec.merged g.M.MessageSpec.cost g.M.MessageSpec.Refused g.K.MessageRecord.held 100)
    (g.M.Blank.meaning c.merge_in.new.message) c.merge_in.new.ctx.1.0 c.in_err-found.field-0.0 c.args.fields.now.records c.if-field-number.true
    (ap records_in c.as_slice-field-items.ensures.value ∙ c.iter.ensures) c.in_err-found.ensures.merged c.in_err-found.ensures.encoding c.in_err-found.ensures.full c.in_err-found.ensures.partly)

pub loop-field-preserved : goal.loop-field-preserved
loop-field-preserved g c =
    elim c.if-field-number.branch [
      | then-field-number+in_ok-found w ↦
          one_more g.K.MessageRecord.held c.args.number c.as_slice-field-items.result.now c.loop-field.field-index c.field-item.result c.loop-field-test.true c.field-item.is
          (g.M.MessageSpec.merged 100) (g.M.MessageSpec.cost 100) (g.M.Blank.meaning c.args.message.now) (g.M.Blank.meaning c.loop-field.message) c.args.budget.now c.loop-field.budget c.loop-field.found c.loop-field.invariant
          (g.M.Blank.meaning w.merge_in.new.message) (g.M.Blank.meaning c.if-field-number.message) w.merge_in.new.ctx.1.0 c.if-field-number.budget w.in_ok-found.field-0 c.if-field-number.found
          w.if-field-number.true (ap g.M.Blank.meaning w.message-is) w.budget-is w.found-is w.in_ok-found.ensures.merged
      | else-field-number w ↦
          passed_over g.K.MessageRecord.held c.args.number c.as_slice-field-items.result.now c.loop-field.field-index c.field-item.result c.loop-field-test.true c.field-item.is
          (g.M.MessageSpec.merged 100) (g.M.MessageSpec.cost 100) (g.M.Blank.meaning c.args.message.now) (g.M.Blank.meaning c.loop-field.message) c.args.budget.now c.loop-field.budget c.loop-field.found c.loop-field.invariant
          (g.M.Blank.meaning c.if-field-number.message) c.if-field-number.budget c.if-field-number.found
          w.if-field-number.false (ap g.M.Blank.meaning w.message-is) w.budget-is w.found-is
    ]
