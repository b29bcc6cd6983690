use Rattle.std.proofs.Common.{ap}
use Rattle.std.specs.Option.{option_map}
use Rattle.buffa_fields.specs.Framing.{field_data_of_value}
use Rattle.buffa_fields.specs.MemberRecords.{explicit_records}
use Rattle.buffa_fields.specs.Submessages.{message_slots}
use Rattle.buffa_fields.proofs.InsideLemmas.{none_written}
use Rattle.buffa_fields.proofs.members.message_in.MessageInMember.write_to.Goals as goal

pub returns-in-None : goal.returns-in-None
unfolding message_slots explicit_records
returns-in-None g c =
    let is = ap (λ p. option_map g.N.Blank.meaning p) c.in-None.is in
    let field_data = field_data_of_value g.F.Framing.frame g.N.MessageSpec.encoding g.N.MessageSpec.records in
    none_written _ _ c.args.cache.now (g.S.EncodeSink.written c.args.sink.now) (ap (explicit_records field_data c.args.number) is) (ap (message_slots g.N.MessageSpec.encoding g.N.MessageSpec.slots) is)
