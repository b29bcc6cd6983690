use Rattle.std.proofs.Common.{Some, refl}
use Rattle.buffa_fields.specs.Framing.{cost_as, taken_as}
use Rattle.buffa_fields.specs.Schema.{AsksAsSaid, RefusesAsSaid, TakesAsSaid, TellsWrongType}
use Rattle.buffa_fields.proofs.InsideLemmas.{took_there}
use Rattle.buffa_fields.proofs.members.message_in.MessageInCase.merge_value.Goals as goal

pub returns : goal.returns
unfolding AsksAsSaid RefusesAsSaid TakesAsSaid TellsWrongType
returns g c =
    let f = g.F.Framing.frame in
    let says = g.N.Blank.meaning in
    let t = c.take_message in
    took_there g.N.Blank.blank_is (taken_as f.wire (f.makes g.N.MessageSpec.merged)) (cost_as f.wire (f.cost g.N.MessageSpec.cost)) f.wire f.There (f.Fault g.N.MessageSpec.merged g.N.MessageSpec.cost) c.args.ctx.depth c.args.tag.number c.args.tag.wire_type c.args.buf.now.now t.new.buf.now c.args.ctx.budget.now _
    (Some (says c.args.value.now)) (says c.args.value.now) (says t.new.message) _ _ t.result refl t.ensures.taken t.ensures.full t.ensures.wire t.ensures.refused t.ensures.fault
