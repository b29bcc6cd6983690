use Rattle.std.proofs.Common.{Ok, Err, Some, refl, sym, ap, ◌∙◌}
use Rattle.std.proofs.lemmas.Result.{err_from_is_err_and}
use Rattle.std.specs.Option.{option_map}
use Rattle.buffa_fields.specs.Schema.{AsksAsSaid, RefusesAsSaid, TakesAsSaid, TellsWrongType}
use Rattle.buffa_fields.specs.Framing.{cost_as, taken_as}
use Rattle.buffa_fields.specs.Submessages.{or_blank}
use Rattle.buffa_fields.proofs.InsideLemmas.{none_refused, stood_refused, there}
use Rattle.buffa_fields.proofs.members.message_in.MessageInMember.merge.Goals as goal

pub returns-in-Some-clause-taken : goal.returns-in-Some-clause-taken
unfolding TakesAsSaid
returns-in-Some-clause-taken g c =
    let f = g.F.Framing.frame in
    let says = g.N.Blank.meaning in
    let t = c.take_message in
    there g.N.Blank.blank_is (taken_as f.wire (f.makes g.N.MessageSpec.merged)) (cost_as f.wire (f.cost g.N.MessageSpec.cost)) c.args.ctx.depth c.args.tag.number c.args.tag.wire_type
    (option_map says c.args.part.now) (says c.in-Some.message) (says t.new.message) c.args.buf.now.now t.new.buf.now c.args.ctx.budget.now _ t.result (sym (ap (or_blank g.N.Blank.blank_is) (ap (option_map says) c.in-Some.is))) t.ensures.taken

pub returns-in-Some-clause-memory : goal.returns-in-Some-clause-memory
unfolding AsksAsSaid
returns-in-Some-clause-memory g c = c.take_message.ensures.full

pub returns-in-Some-clause-wrong_type : goal.returns-in-Some-clause-wrong_type
unfolding TellsWrongType
returns-in-Some-clause-wrong_type g c = λ e is.
    let k = c.take_message.ensures.wire e is in
    (k.0, ap (option_map g.N.Blank.meaning) c.in-Some.is ∙ ap (λ z. Some z) k.1, k.2)

pub returns-in-Some-clause-refused : goal.returns-in-Some-clause-refused
unfolding RefusesAsSaid
returns-in-Some-clause-refused g c = λ e bad.
    let f = g.F.Framing.frame in
    let says = g.N.Blank.meaning in
    let t = c.take_message in
    stood_refused g.N.Blank.blank_is f.wire f.There (f.Fault g.N.MessageSpec.merged g.N.MessageSpec.cost) c.args.ctx.depth c.args.tag.number c.args.tag.wire_type c.args.buf.now.now c.args.ctx.budget.now
    (option_map says c.args.part.now) (says c.in-Some.message) (says t.new.message) (ap (option_map says) c.in-Some.is) e (t.ensures.refused e bad) (t.ensures.fault e bad)

pub returns-in_ok-take_message-in-None-clause-taken : goal.returns-in_ok-take_message-in-None-clause-taken
unfolding TakesAsSaid
returns-in_ok-take_message-in-None-clause-taken g c =
    let f = g.F.Framing.frame in
    let says = g.N.Blank.meaning in
    let t = c.take_message-in-None in
    there g.N.Blank.blank_is (taken_as f.wire (f.makes g.N.MessageSpec.merged)) (cost_as f.wire (f.cost g.N.MessageSpec.cost)) c.args.ctx.depth c.args.tag.number c.args.tag.wire_type
    (option_map says c.args.part.now) (says c.blank-message.result) (says t.new.message) c.args.buf.now.now t.new.buf.now c.args.ctx.budget.now _ (Ok tt) (c.blank-message.ensures ∙ sym (ap (or_blank g.N.Blank.blank_is) (ap (option_map says) c.in-None.is))) c.in_ok-take_message-in-None.ensures.taken

pub returns-in_ok-take_message-in-None-clause-memory : goal.returns-in_ok-take_message-in-None-clause-memory
unfolding AsksAsSaid
returns-in_ok-take_message-in-None-clause-memory g c = tt

pub returns-in_ok-take_message-in-None-clause-wrong_type : goal.returns-in_ok-take_message-in-None-clause-wrong_type
unfolding TellsWrongType
returns-in_ok-take_message-in-None-clause-wrong_type g c = λ e is. let k = (c.in_ok-take_message-in-None.ensures.wire e is).0 in cc

pub returns-in_ok-take_message-in-None-clause-refused : goal.returns-in_ok-take_message-in-None-clause-refused
unfolding RefusesAsSaid
returns-in_ok-take_message-in-None-clause-refused g c = λ e bad. cc

pub returns-in_err-take_message-in-None-clause-taken : goal.returns-in_err-take_message-in-None-clause-taken
unfolding TakesAsSaid
returns-in_err-take_message-in-None-clause-taken g c =
    let f = g.F.Framing.frame in
    let says = g.N.Blank.meaning in
    let t = c.take_message-in-None in
    let p = err_from_is_err_and c.from_residual.result c.from_residual.ensures.1 in
    rw (p.1, p.2) (there g.N.Blank.blank_is (taken_as f.wire (f.makes g.N.MessageSpec.merged)) (cost_as f.wire (f.cost g.N.MessageSpec.cost)) c.args.ctx.depth c.args.tag.number c.args.tag.wire_type
    (option_map says c.args.part.now) (says c.blank-message.result) (says t.new.message) c.args.buf.now.now t.new.buf.now c.args.ctx.budget.now _ (Err c.in_err-take_message-in-None.field-0.0)
    (c.blank-message.ensures ∙ sym (ap (or_blank g.N.Blank.blank_is) (ap (option_map says) c.in-None.is))) c.in_err-take_message-in-None.ensures.taken)

pub returns-in_err-take_message-in-None-clause-memory : goal.returns-in_err-take_message-in-None-clause-memory
unfolding AsksAsSaid
returns-in_err-take_message-in-None-clause-memory g c =
    let p = err_from_is_err_and c.from_residual.result c.from_residual.ensures.1 in
    rw (p.1, p.2) c.in_err-take_message-in-None.ensures.full

pub returns-in_err-take_message-in-None-clause-wrong_type : goal.returns-in_err-take_message-in-None-clause-wrong_type
unfolding TellsWrongType
returns-in_err-take_message-in-None-clause-wrong_type g c =
    let p = err_from_is_err_and c.from_residual.result c.from_residual.ensures.1 in
    rw (p.1, p.2) (λ e is. let k = c.in_err-take_message-in-None.ensures.wire e is in (k.0, refl, k.2))

pub returns-in_err-take_message-in-None-clause-refused : goal.returns-in_err-take_message-in-None-clause-refused
unfolding RefusesAsSaid
returns-in_err-take_message-in-None-clause-refused g c =
    let f = g.F.Framing.frame in
    let says = g.N.Blank.meaning in
    let p = err_from_is_err_and c.from_residual.result c.from_residual.ensures.1 in
    rw (p.1, p.2) (λ e bad. none_refused g.N.Blank.blank_is f.wire f.There (f.Fault g.N.MessageSpec.merged g.N.MessageSpec.cost) c.args.ctx.depth c.args.tag.number c.args.tag.wire_type c.args.buf.now.now c.args.ctx.budget.now
    (option_map says c.args.part.now) (says c.blank-message.result) (says c.take_message-in-None.new.message) (ap (option_map says) c.in-None.is) c.blank-message.ensures e (c.in_err-take_message-in-None.ensures.fault e bad))
