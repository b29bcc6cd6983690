use Rattle.std.proofs.lemmas.Result.{err_from_is_err_and}
use Rattle.buffa_map.proofs.MessageLemmas.{message_refused}
use Rattle.buffa_map.proofs.message_merge.merge_value_by.Goals as goal

pub returns-in_err-merge_payload_by-clause-fault : goal.returns-in_err-merge_payload_by-clause-fault
returns-in_err-merge_payload_by-clause-fault g c =
    let p = err_from_is_err_and c.from_residual.result c.from_residual.ensures.1 in
    rw (p.1, p.2) (λ ne. message_refused g.M.Blank.blank_is g.M.MessageSpec.merged g.M.MessageSpec.cost c.args.ctx.depth (g.M.Blank.meaning c.args.value.now) (g.B.Buf.unread c.args.buf.now) c.args.ctx.budget.now c.in_err-merge_payload_by.field-0.0 (c.in_err-merge_payload_by.ensures.fault ne))
