use Rattle.std.proofs.Common.{sym, ◌∙◌}
use Rattle.std.proofs.lemmas.Result.{err_from_is_err_and}
use Rattle.buffa_wire.specs.RecordsOfValues.{field_data_of}
use Rattle.buffa_ext.specs.StrictFacts.{is_of_kind, refused_record, found_kind}
use Rattle.buffa_within.proofs.within.merge_one.Goals as goal

pub returns-then-branch-clause-kind : goal.returns-then-branch-clause-kind
returns-then-branch-clause-kind g c =
    is_of_kind g.K.MessageRecord.held g.K.MessageRecord.WIRE_TYPE c.args.number (field_data_of c.args.payload.now) (sym c.if-branch.true ∙ c.in_ok-merge_in.ensures.merged.0)

pub returns-clause-fault : goal.returns-clause-fault
returns-clause-fault g c =
    found_kind (g.M.MessageSpec.merged c.args.depth) (g.M.MessageSpec.cost c.args.depth) g.K.MessageRecord.held g.K.MessageRecord.WIRE_TYPE c.args.number (g.K.MessageRecord.asks c.args.depth)
    (field_data_of c.args.payload.now) (g.M.Blank.meaning c.args.message.now) c.args.budget.now c.WIRE_TYPE.result c.wire_type.result c.WIRE_TYPE.ensures c.wire_type.ensures (sym c.if-branch.false ∙ c.in_ok-merge_in.ensures.merged.0)

pub returns-in_err-merge_in-clause-fault : goal.returns-in_err-merge_in-clause-fault
returns-in_err-merge_in-clause-fault g c =
    let p = err_from_is_err_and c.from_residual.result c.from_residual.ensures.1 in
    rw (p.1, p.2) (refused_record (g.M.MessageSpec.merged c.args.depth) (g.M.MessageSpec.cost c.args.depth) g.K.MessageRecord.held g.K.MessageRecord.WIRE_TYPE c.args.number (g.K.MessageRecord.asks c.args.depth)
    (field_data_of c.args.payload.now) (g.M.Blank.meaning c.args.message.now) (g.M.Blank.meaning c.merge_in.new.message) c.args.budget.now c.merge_in.new.ctx.1.0 c.in_err-merge_in.field-0.0
    c.in_err-merge_in.ensures.encoding c.in_err-merge_in.ensures.full c.in_err-merge_in.ensures.merged)
