use Rattle.std.proofs.Common.{◌∙◌, ◌∷◌}
use Rattle.buffa_wire.proofs.PassLemmas.{slots_step}
use Rattle.buffa_wire.specs.Cache.{appended}
use Rattle.buffa_fields.proofs.members.message_in.message_len.Goals as goal

pub returns : goal.returns
returns g c =
    let v = g.N.Blank.meaning c.args.message.now in
    let slots = g.N.MessageSpec.slots v in
    let is = c.in_ok-inner.ensures.0 in
    let added = slots_step c.args.cache.now c.reserve.new.self c.compute_size.new.cache c.set.new.self _ _ slots c.in_ok-slot.ensures.place c.in_ok-slot.ensures.ok c.in_ok-inner.ensures.1 c.set.ensures in
    (c.field_len.ensures (g.N.MessageSpec.encoding v) (g.N.MessageSpec.records v) (g.N.MessageSpec.encoding_records v) is, added ∙ (λ i. appended (is i ∷ slots) c.args.cache.now))
