use Rattle.std.proofs.Common.{[], ◌∷◌, map, ap, Ok, Err, ◌∙◌}
use Rattle.std.proofs.lemmas.List.{map-append}
use Rattle.std.proofs.lemmas.Result.{err_from_is_err_and}
use Rattle.buffa_fields.specs.Framing.{each_cost_as, taken_as}
use Rattle.buffa_fields.proofs.FramingLemmas.{read_as}
use Rattle.buffa_fields.proofs.InsideLemmas.{put_behind}
use Rattle.buffa_fields.proofs.members.messages_in.take_element.Goals as goal

pub returns-in_err-take_charged-clause-taken : goal.returns-in_err-take_charged-clause-taken
returns-in_err-take_charged-clause-taken g c =
    let f = g.F.Framing.frame in
    let says = g.N.Blank.meaning in
    let olds = map says c.args.messages.now.items in
    let p = err_from_is_err_and c.from_residual.result c.from_residual.ensures.1 in
    rw (p.1, p.2) (put_behind g.N.Blank.blank_is (taken_as f.wire (f.makes g.N.MessageSpec.merged)) (each_cost_as f.wire g.N.MessageSpec.COST (f.cost g.N.MessageSpec.cost)) c.args.ctx.depth c.args.tag.number c.args.tag.wire_type olds olds (says c.blank-message.result) (says c.take_charged.new.message) c.args.buf.now.now c.take_charged.new.buf.now
    c.args.ctx.budget.now _ (Err _) c.blank-message.ensures c.in_err-take_charged.ensures.taken tt)

pub returns-clause-taken : goal.returns-clause-taken
returns-clause-taken g c =
    let f = g.F.Framing.frame in
    let says = g.N.Blank.meaning in
    let xs = c.args.messages.now.items in
    put_behind g.N.Blank.blank_is (taken_as f.wire (f.makes g.N.MessageSpec.merged)) (each_cost_as f.wire g.N.MessageSpec.COST (f.cost g.N.MessageSpec.cost)) c.args.ctx.depth c.args.tag.number c.args.tag.wire_type (map says xs) (map says c.push.new.self.items) (says c.blank-message.result) (says c.take_charged.new.message) c.args.buf.now.now c.take_charged.new.buf.now
    c.args.ctx.budget.now _ (Ok tt) c.blank-message.ensures c.in_ok-take_charged.ensures.taken (ap (map says) c.in_ok-push.ensures.items ∙ map-append says xs (c.take_charged.new.message ∷ []))

pub returns-in_err-take_charged-clause-full : goal.returns-in_err-take_charged-clause-full
returns-in_err-take_charged-clause-full g c =
    let p = err_from_is_err_and c.from_residual.result c.from_residual.ensures.1 in
    rw (p.1, p.2) (λ full. g.F.Framing.holds.asks_more c.args.ctx.depth c.args.tag.number c.args.tag.wire_type c.args.buf.now.now (c.in_err-take_charged.ensures.full full))

pub returns-in_err-push-clause-full : goal.returns-in_err-push-clause-full
returns-in_err-push-clause-full g c =
    let p = err_from_is_err_and c.from_residual-in_err-push.result c.from_residual-in_err-push.ensures.1 in
    rw (p.1, p.2) (λ full.
    let t = c.in_ok-take_charged.ensures.taken in
    read_as g.F.Framing.frame g.F.Framing.holds g.N.MessageSpec.merged c.args.ctx.depth (g.N.Blank.meaning c.blank-message.result) (g.N.Blank.meaning c.take_charged.new.message) c.args.tag.number c.args.tag.wire_type c.args.buf.now.now t.0 c.take_charged.new.buf.now t.1 t.2 t.3)
