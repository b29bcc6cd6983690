use Rattle.std.proofs.lemmas.Result.{err_from_is_err_and}
use Rattle.buffa_fields.specs.Framing.{field_data_of_value}
use Rattle.buffa_fields.specs.facts.RepeatedMessageFacts.{messages_have_slots, size_on, size_stops, sized_none}
use Rattle.buffa_fields.proofs.members.messages_in.messages_len.Goals as goal

pub loop-message-init : goal.loop-message-init
loop-message-init g c = sized_none (field_data_of_value g.F.Framing.frame g.N.MessageSpec.encoding g.N.MessageSpec.records) g.N.MessageSpec.encoding g.N.MessageSpec.slots c.args.number c.args.cache.now

pub loop-message-preserved : goal.loop-message-preserved
loop-message-preserved g c =
    size_on (field_data_of_value g.F.Framing.frame g.N.MessageSpec.encoding g.N.MessageSpec.records) g.N.MessageSpec.encoding g.N.MessageSpec.slots c.args.number g.N.Blank.meaning c.args.messages.now c.loop-message.message-index c.message-item.result c.loop-message-test.true c.message-item.is
    c.args.cache.now c.loop-message.cache c.message_len.new.cache c.loop-message.total _ _ c.loop-message.invariant c.in_ok-len.ensures c.saturating_add-total.ensures

pub returns-in_err-len-clause-sized : goal.returns-in_err-len-clause-sized
returns-in_err-len-clause-sized g c =
    let p = err_from_is_err_and c.from_residual.result c.from_residual.ensures.1 in
    rw (p.1, p.2) (size_stops (field_data_of_value g.F.Framing.frame g.N.MessageSpec.encoding g.N.MessageSpec.records) g.N.MessageSpec.encoding g.N.MessageSpec.slots c.args.number g.N.Blank.meaning c.args.messages.now c.loop-message.message-index c.message-item.result c.loop-message-test.true c.message-item.is
    c.args.cache.now c.loop-message.cache c.message_len.new.cache c.loop-message.total _ c.loop-message.invariant c.in_err-len.ensures)

pub returns-in_err-len-clause-always : goal.returns-in_err-len-clause-always
returns-in_err-len-clause-always g c = λ none. absurd (
    messages_have_slots (field_data_of_value g.F.Framing.frame g.N.MessageSpec.encoding g.N.MessageSpec.records) g.N.MessageSpec.encoding g.N.MessageSpec.slots c.args.number g.N.Blank.meaning c.args.messages.now c.loop-message.message-index c.message-item.result c.loop-message-test.true c.message-item.is none
    )
