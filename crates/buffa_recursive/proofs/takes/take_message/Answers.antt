use Rattle.std.proofs.Common.{◌∙◌, inr, sym}
use Rattle.std.proofs.lemmas.Result.{err_from_is_err_and}
use Rattle.buffa_bytes.specs.declared.wire_type.WireType.TheVariants.{LengthDelimited}
use Rattle.buffa_bytes.specs.Readings.{delimited_at}
use Rattle.buffa_bytes.proofs.WireLemmas.{other_not_full}
use Rattle.buffa_wire.specs.Message.{cost_of_payload}
use Rattle.buffa_fields.proofs.InsideLemmas.{charged, uncharged}
use Rattle.buffa_fields.proofs.SubmessageLemmas.{inside_full, inside_taken, message_wire_err}
use Rattle.buffa_fields.specs.Submessages.{message_cost, message_merged}
use Rattle.buffa_fields.specs.RepeatedMessages.{messages_cost}
use Rattle.buffa_recursive.specs.Fixpoint.{semantics}
use Rattle.buffa_recursive.proofs.takes.take_message.Goals as goal

pub returns-in_err-check_wire_type-clause-taken : goal.returns-in_err-check_wire_type-clause-taken
returns-in_err-check_wire_type-clause-taken g c =
    let w = semantics g.M.RecursiveType.COST g.M.RecursiveType.schema g.M.RecursiveType.sound in
    let p = err_from_is_err_and c.from_residual.result c.from_residual.ensures.1 in
    rw (p.1, p.2) (message_wire_err w.merged (messages_cost g.M.RecursiveType.COST w.cost) c.args.depth c.args.tag.number c.args.tag.wire_type c.args.child.now c.args.buf.now.now c.args.budget.now c.in_err-check_wire_type.field-0.0 c.in_err-check_wire_type.ensures)

pub returns-in_err-take_memory-clause-taken : goal.returns-in_err-take_memory-clause-taken
unfolding messages_cost
returns-in_err-take_memory-clause-taken g c =
    let w = semantics g.M.RecursiveType.COST g.M.RecursiveType.schema g.M.RecursiveType.sound in
    let old = c.args.child.now in
    let e = c.in_err-take_memory.ensures in
    let p = err_from_is_err_and c.from_residual-in_err-take_memory.result c.from_residual-in_err-take_memory.ensures.1 in
    rw (p.1, p.2) (uncharged LengthDelimited (message_merged w.merged) g.M.RecursiveType.COST (λ d bs. cost_of_payload w.cost d (delimited_at bs)) c.args.depth c.args.tag.number c.args.tag.wire_type old old c.args.buf.now.now c.args.buf.now.now c.args.budget.now c.take_memory.new.self
    c.in_ok-check_wire_type.ensures c.COST.result c.COST.ensures e.err c.in_err-take_memory.field-0.0 e.which)

pub returns-clause-taken : goal.returns-clause-taken
unfolding message_cost messages_cost
returns-clause-taken g c =
    let w = semantics g.M.RecursiveType.COST g.M.RecursiveType.schema g.M.RecursiveType.sound in
    let m = c.merge_inner in
    charged LengthDelimited (message_merged w.merged) g.M.RecursiveType.COST (λ d bs. cost_of_payload w.cost d (delimited_at bs)) c.args.depth c.args.tag.number c.args.tag.wire_type c.args.child.now m.new.child c.args.buf.now.now m.new.buf.now c.args.budget.now _
    c.in_ok-check_wire_type.ensures c.COST.result c.COST.ensures c.take_memory.new.self c.in_ok-take_memory.ensures.ok m.result (inside_taken w.merged w.cost c.args.tag.number c.args.tag.wire_type c.in_ok-check_wire_type.ensures c.args.child.now m.new.child c.args.buf.now.now m.new.buf.now
    c.take_memory.new.self _ c.args.depth m.result m.ensures.ok m.ensures.fault m.ensures.spent)

pub returns-in_err-check_wire_type-clause-full : goal.returns-in_err-check_wire_type-clause-full
returns-in_err-check_wire_type-clause-full g c =
    let p = err_from_is_err_and c.from_residual.result c.from_residual.ensures.1 in
    rw (p.1, p.2) (other_not_full c.args.tag.number LengthDelimited c.args.tag.wire_type c.in_err-check_wire_type.field-0.0 c.in_err-check_wire_type.ensures)

pub returns-in_err-take_memory-clause-full : goal.returns-in_err-take_memory-clause-full
returns-in_err-take_memory-clause-full g c =
    let p = err_from_is_err_and c.from_residual-in_err-take_memory.result c.from_residual-in_err-take_memory.ensures.1 in
    rw (p.1, p.2) (λ full. let two = sym full ∙ c.in_err-take_memory.ensures.which in cc)

pub returns-clause-full : goal.returns-clause-full
returns-clause-full g c =
    let m = c.merge_inner in
    inside_full c.args.depth c.args.tag.number c.args.tag.wire_type c.args.buf.now.now c.in_ok-check_wire_type.ensures m.result m.ensures.full m.ensures.free
