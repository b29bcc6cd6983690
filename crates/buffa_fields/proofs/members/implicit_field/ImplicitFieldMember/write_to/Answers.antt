use Rattle.std.proofs.Common.{◌∙◌, ◌∷◌, [], ap, sym}
use Rattle.buffa_fields.specs.facts.SchemaFacts.{unwritten}
use Rattle.buffa_fields.specs.MemberRecords.{implicit_records}
use Rattle.buffa_fields.specs.Values.{records_unless}
use Rattle.buffa_fields.proofs.members.implicit_field.ImplicitFieldMember.write_to.Goals as goal

pub returns-then-is_blank : goal.returns-then-is_blank
unfolding implicit_records
returns-then-is_blank g c =
    let v = g.C.Value.Blank.meaning c.args.part.now in
    unwritten (implicit_records g.C.ProtoType.is_blank g.C.ProtoType.field_data c.args.number v) c.args._cache.now (g.S.EncodeSink.written c.args.sink.now)
    (ap (λ t. records_unless t ((c.args.number, g.C.ProtoType.field_data v) ∷ [])) (sym c.is_blank.ensures ∙ c.if-is_blank.true))
