use Rattle.std.proofs.lemmas.Result.{err_from_is_err_and}
use Rattle.buffa_map.proofs.MemoryLemmas.{depth_left}
use Rattle.buffa_map.proofs.MessageLemmas.{message_refused, reads_nothing}
use Rattle.buffa_map.proofs.message.MsgMapValueDecode.merge.Goals as goal

pub returns-in_err-merge_length_delimited-clause-fault : goal.returns-in_err-merge_length_delimited-clause-fault
returns-in_err-merge_length_delimited-clause-fault g c =
    let p = err_from_is_err_and c.from_residual.result c.from_residual.ensures.1 in
    rw (p.1, p.2) (λ ne. message_refused g.M.Blank.blank_is g.M.MessageSpec.merged g.M.MessageSpec.cost c.args.ctx.depth (g.M.Blank.meaning c.args.value.now) (g.B.Buf.unread c.args.buf.now) c.args.ctx.budget.now c.in_err-merge_length_delimited.field-0.0 (c.in_err-merge_length_delimited.ensures.fault ne))

pub returns-in_err-merge_length_delimited-clause-empty : goal.returns-in_err-merge_length_delimited-clause-empty
returns-in_err-merge_length_delimited-clause-empty g c h =
    let n = reads_nothing g.M.Blank.blank_is g.M.MessageSpec.merged g.M.MessageSpec.cost c.args.ctx.depth (g.B.Buf.unread c.args.buf.now) h in
    let read = c.in_err-merge_length_delimited.ensures.free n.0 n.1 n.2 in
    absurd (let no : ⊥ = cc in no)

pub returns-in_err-merge_length_delimited-clause-left : goal.returns-in_err-merge_length_delimited-clause-left
returns-in_err-merge_length_delimited-clause-left g c = λ takes deep.
    let p = err_from_is_err_and c.from_residual.result c.from_residual.ensures.1 in
    rw (p.1, p.2) (c.in_err-merge_length_delimited.ensures.left (depth_left c.args.ctx.depth deep))
