use Rattle.std.proofs.Common.{sym}
use Rattle.std.proofs.lemmas.Result.{err_from_is_err_and}
use Rattle.buffa_fields.specs.Framing.{cost_as}
use Rattle.buffa_fields.proofs.FramingLemmas.{none_as}
use Rattle.buffa_fields.proofs.members.message_in.take_message.Goals as goal

pub returns-in_err-check_wire_type-clause-taken : goal.returns-in_err-check_wire_type-clause-taken
returns-in_err-check_wire_type-clause-taken g c =
    let f = g.F.Framing.frame in
    let p = err_from_is_err_and c.from_residual.result c.from_residual.ensures.1 in
    rw (p.1, p.2) (none_as f.wire (f.makes g.N.MessageSpec.merged) (cost_as f.wire (f.cost g.N.MessageSpec.cost)) c.args.ctx.depth c.args.tag.number c.args.tag.wire_type (g.N.Blank.meaning c.args.message.now) c.args.buf.now.now c.args.ctx.budget.now _ (rw (sym c.wire_type.ensures) c.in_err-check_wire_type.ensures))
