use Rattle.buffa_map.specs.Pairs.{means}
use Rattle.buffa_fields.proofs.MapOfMessagesLemmas.{all_sized}
use Rattle.buffa_fields.proofs.members.ordered_message_map_field.OrderedMessageMapFieldMember.len.Goals as goal

pub returns-clause-always : goal.returns-clause-always
returns-clause-always g c = λ none.
    let l = means g.KC.Value.Blank.meaning g.N.Blank.meaning c.args.part.now.entries in
    all_sized g.N.MessageSpec.encoding g.N.MessageSpec.slots l c.pairs_len.result c.pairs_len.ensures.some none
