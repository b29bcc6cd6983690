use Rattle.std.proofs.Common.{None, refl}
use Rattle.std.proofs.lemmas.Result.{err_from_is_err_and}
use Rattle.buffa_fields.specs.Framing.{cost_as, taken_as}
use Rattle.buffa_fields.specs.Schema.{AsksAsSaid, RefusesAsSaid, TakesAsSaid, TellsWrongType}
use Rattle.buffa_fields.proofs.InsideLemmas.{came_there, none_came}
use Rattle.buffa_fields.proofs.members.message_in.MessageInCase.read_value.Goals as goal

pub returns-clause-ok : goal.returns-clause-ok
unfolding AsksAsSaid RefusesAsSaid TakesAsSaid TellsWrongType
returns-clause-ok g c =
    let f = g.F.Framing.frame in
    let says = g.N.Blank.meaning in
    let t = c.take_message in
    let h = c.in_ok-take_message.ensures in
    came_there g.N.Blank.blank_is (taken_as f.wire (f.makes g.N.MessageSpec.merged)) (cost_as f.wire (f.cost g.N.MessageSpec.cost)) f.wire f.There (f.Fault g.N.MessageSpec.merged g.N.MessageSpec.cost) c.args.ctx.depth c.args.tag.number c.args.tag.wire_type c.args.buf.now.now t.new.buf.now c.args.ctx.budget.now _
    None (says c.blank-message.result) (says t.new.message) _ (f.asks c.args.ctx.depth c.args.tag.number c.args.tag.wire_type c.args.buf.now.now) refl c.blank-message.ensures h.taken h.wire

pub returns-in_err-take_message-clause-err : goal.returns-in_err-take_message-clause-err
unfolding AsksAsSaid RefusesAsSaid TakesAsSaid TellsWrongType
returns-in_err-take_message-clause-err g c =
    let f = g.F.Framing.frame in
    let says = g.N.Blank.meaning in
    let t = c.take_message in
    let h = c.in_err-take_message.ensures in
    let p = err_from_is_err_and c.from_residual.result c.from_residual.ensures.1 in
    rw (p.1, p.2) (none_came g.N.Blank.blank_is (taken_as f.wire (f.makes g.N.MessageSpec.merged)) (cost_as f.wire (f.cost g.N.MessageSpec.cost)) f.wire f.There (f.Fault g.N.MessageSpec.merged g.N.MessageSpec.cost) c.args.ctx.depth c.args.tag.number c.args.tag.wire_type c.args.buf.now.now t.new.buf.now c.args.ctx.budget.now _
    None (says c.blank-message.result) (says t.new.message) _ _ refl c.blank-message.ensures _ h.taken h.full h.wire h.fault)
