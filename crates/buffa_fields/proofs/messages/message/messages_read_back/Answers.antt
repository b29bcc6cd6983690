use Rattle.std.proofs.Common.{◌∙◌, ap}
use Rattle.buffa_wire.specs.Encoding.{records_encoding}
use Rattle.buffa_fields.specs.facts.SchemaFacts.{reads_back}
use Rattle.buffa_wire.specs.Takes.{merged_of}
use Rattle.buffa_fields.proofs.messages.message.messages_read_back.Goals as goal

pub returns : goal.returns
returns g c = λ d fits normal low.
    let l = g.M.MessageFields.schema in
    let v = g.M.Blank.meaning c.args.message.now in
    ap (λ b. merged_of l.takes d b (records_encoding (l.records v))) g.met.M.FieldsMeaning.starts
    ∙ reads_back l c.members_read_back.ensures g.M.MessageFields.sound d v fits normal low
