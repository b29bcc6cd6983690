use Rattle.std.proofs.Common.{Ok, Err}
use Rattle.std.proofs.lemmas.Result.{err_from_is_err_and}
use Rattle.buffa_fields.proofs.InsideLemmas.{put_behind}
use Rattle.buffa_fields.proofs.SubmessageLemmas.{message_there}
use Rattle.buffa_fields.specs.Submessages.{message_merged}
use Rattle.buffa_fields.specs.RepeatedMessages.{messages_cost}
use Rattle.buffa_recursive.specs.Fixpoint.{semantics}
use Rattle.buffa_recursive.proofs.takes.push_message.Goals as goal

pub returns-in_err-take_message-clause-taken : goal.returns-in_err-take_message-clause-taken
returns-in_err-take_message-clause-taken g c =
    let w = semantics g.M.RecursiveType.COST g.M.RecursiveType.schema g.M.RecursiveType.sound in
    let olds = c.args.list.now.items in
    let p = err_from_is_err_and c.from_residual.result c.from_residual.ensures.1 in
    rw (p.1, p.2) (put_behind w.blank (message_merged w.merged) (messages_cost g.M.RecursiveType.COST w.cost) c.args.depth c.args.tag.number c.args.tag.wire_type olds olds c.blank-child.result c.take_message.new.child c.args.buf.now.now c.take_message.new.buf.now
    c.args.budget.now _ (Err c.in_err-take_message.field-0.0) c.blank-child.ensures c.in_err-take_message.ensures.taken tt)

pub returns-clause-taken : goal.returns-clause-taken
returns-clause-taken g c =
    let w = semantics g.M.RecursiveType.COST g.M.RecursiveType.schema g.M.RecursiveType.sound in
    put_behind w.blank (message_merged w.merged) (messages_cost g.M.RecursiveType.COST w.cost) c.args.depth c.args.tag.number c.args.tag.wire_type c.args.list.now.items c.push.new.self.items c.blank-child.result c.take_message.new.child c.args.buf.now.now c.take_message.new.buf.now
    c.args.budget.now _ (Ok tt) c.blank-child.ensures c.in_ok-take_message.ensures.taken c.in_ok-push.ensures.items

pub returns-in_err-push-clause-full : goal.returns-in_err-push-clause-full
returns-in_err-push-clause-full g c =
    let w = semantics g.M.RecursiveType.COST g.M.RecursiveType.schema g.M.RecursiveType.sound in
    let p = err_from_is_err_and c.from_residual-in_err-push.result c.from_residual-in_err-push.ensures.1 in
    rw (p.1, p.2) (λ full.
    let k = c.in_ok-take_message.ensures.taken in
    message_there w.merged c.args.depth c.blank-child.result c.take_message.new.child c.args.tag.number c.args.tag.wire_type c.args.buf.now.now k.0 c.take_message.new.buf.now k.1 k.2 k.3)
