use Rattle.std.proofs.Common.{ap}
use Rattle.std.specs.Option.{option_map}
use Rattle.buffa_fields.specs.facts.SchemaFacts.{unwritten}
use Rattle.buffa_fields.specs.MemberRecords.{explicit_records}
use Rattle.buffa_fields.proofs.members.explicit_field.ExplicitFieldMember.write_to.Goals as goal

pub returns-in-None : goal.returns-in-None
unfolding explicit_records
returns-in-None g c =
    unwritten (explicit_records g.C.ProtoType.field_data c.args.number (option_map g.C.Value.Blank.meaning c.args.part.now)) c.args._cache.now (g.S.EncodeSink.written c.args.sink.now)
    (ap (λ p. explicit_records g.C.ProtoType.field_data c.args.number (option_map g.C.Value.Blank.meaning p)) c.in-None.is)
