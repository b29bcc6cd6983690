use Rattle.std.proofs.lemmas.Result.{err_from_is_err_and}
use Rattle.buffa_fields.specs.Framing.{field_data_of_value}
use Rattle.buffa_fields.specs.facts.RepeatedMessageFacts.{next_of, write_on, write_stops, written_no}
use Rattle.buffa_fields.proofs.members.messages_in.write_messages.Goals as goal

pub loop-message-init : goal.loop-message-init
loop-message-init g c = written_no (field_data_of_value g.F.Framing.frame g.N.MessageSpec.encoding g.N.MessageSpec.records) g.N.MessageSpec.encoding g.N.MessageSpec.slots c.args.number c.args.cache.now (g.S.EncodeSink.written c.args.sink.now)

pub write_message-requires-clause-next : goal.write_message-requires-clause-next
write_message-requires-clause-next g c =
    next_of (field_data_of_value g.F.Framing.frame g.N.MessageSpec.encoding g.N.MessageSpec.records) g.N.MessageSpec.encoding g.N.MessageSpec.slots c.args.number g.N.Blank.meaning c.args.messages.now c.loop-message.message-index c.message-item.result c.loop-message-test.true c.message-item.is
    c.args.cache.now c.loop-message.cache (g.S.EncodeSink.written c.args.sink.now) (g.S.EncodeSink.written c.loop-message.sink) c.requires.next c.loop-message.invariant

pub loop-message-preserved : goal.loop-message-preserved
loop-message-preserved g c =
    write_on (field_data_of_value g.F.Framing.frame g.N.MessageSpec.encoding g.N.MessageSpec.records) g.N.MessageSpec.encoding g.N.MessageSpec.slots c.args.number g.N.Blank.meaning c.args.messages.now c.loop-message.message-index c.message-item.result c.loop-message-test.true c.message-item.is
    c.args.cache.now c.loop-message.cache c.write_message.new.cache (g.S.EncodeSink.written c.args.sink.now) (g.S.EncodeSink.written c.loop-message.sink) (g.S.EncodeSink.written c.write_message.new.sink) c.loop-message.invariant c.in_ok-write_message.ensures

pub returns-in_err-write_message : goal.returns-in_err-write_message
returns-in_err-write_message g c =
    let p = err_from_is_err_and c.from_residual.result c.from_residual.ensures.1 in
    rw (p.1, p.2) (write_stops (field_data_of_value g.F.Framing.frame g.N.MessageSpec.encoding g.N.MessageSpec.records) g.N.MessageSpec.encoding g.N.MessageSpec.slots c.args.number g.N.Blank.meaning c.args.messages.now c.loop-message.message-index c.message-item.result c.loop-message-test.true c.message-item.is
    c.args.cache.now c.loop-message.cache c.write_message.new.cache (g.S.EncodeSink.written c.args.sink.now) (g.S.EncodeSink.written c.loop-message.sink) (g.S.EncodeSink.written c.write_message.new.sink) _ c.loop-message.invariant c.in_err-write_message.ensures)
