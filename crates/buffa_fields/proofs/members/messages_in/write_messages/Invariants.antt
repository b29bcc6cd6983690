use Rattle.std.proofs.Common.{map, take}
use Rattle.buffa_wire.specs.Passes.{IsWritten}
use Rattle.buffa_wire.specs.Encoding.{records_encoding}
use Rattle.buffa_wire.specs.Pinned.{done}
use Rattle.buffa_fields.specs.Framing.{field_data_of_value}
use Rattle.buffa_fields.specs.Lists.{element_records}
use Rattle.buffa_fields.specs.RepeatedMessages.{messages_slots}
use Rattle.buffa_fields.proofs.members.messages_in.write_messages.Given as goal

-- the messages so far were written
abbrev pub invariant-loop-message : goal.invariant-loop-message
invariant-loop-message g l =
    let vs = map g.N.Blank.meaning (take l.message-index l.messages) in
    let field_data = field_data_of_value g.F.Framing.frame g.N.MessageSpec.encoding g.N.MessageSpec.records in
    IsWritten (records_encoding (element_records field_data l.number vs)) (messages_slots g.N.MessageSpec.encoding g.N.MessageSpec.slots vs) l.fn.cache (g.S.EncodeSink.written l.fn.sink) done l.cache (g.S.EncodeSink.written l.sink)
