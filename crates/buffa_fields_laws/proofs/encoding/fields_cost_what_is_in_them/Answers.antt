use Rattle.std.proofs.Common.{ap, arith}
use Rattle.buffa_fields_laws.proofs.RecordLemmas.{bytes_cost, elements_cost, list_wire_cost, no_bytes_cost, no_level_cost, numbers_tested, units_beside, wire_cost}
use Rattle.buffa_fields.specs.Submessages.{message_cost}
use Rattle.buffa_fields.specs.RepeatedMessages.{messages_cost}
use Rattle.buffa_fields_laws.proofs.encoding.fields_cost_what_is_in_them.Goals as goal

pub returns-clause-message : goal.returns-clause-message
unfolding message_cost
returns-clause-message g c = λ d n t b more h. bytes_cost g.N.MessageSpec.cost d n t b more h

pub returns-clause-element : goal.returns-clause-element
unfolding messages_cost
returns-clause-element g c = λ d n t b more h.
    let is = elements_cost g.N.MessageSpec.COST g.N.MessageSpec.cost d n t b more h in
    (ap (λ z. z.memory) is, omega (arith, ap (λ z. z.unknown) is))

pub returns-clause-too_deep : goal.returns-clause-too_deep
unfolding message_cost
returns-clause-too_deep g c = λ n bs. no_level_cost g.N.MessageSpec.cost n bs

pub returns-clause-no_bytes : goal.returns-clause-no_bytes
unfolding message_cost
returns-clause-no_bytes g c = λ d n bs e h. no_bytes_cost g.N.MessageSpec.cost n d bs e h

pub returns-clause-each : goal.returns-clause-each
unfolding message_cost messages_cost
returns-clause-each g c = λ d n bs. units_beside g.N.MessageSpec.cost n g.N.MessageSpec.COST d bs

pub returns-clause-wire : goal.returns-clause-wire
unfolding message_cost messages_cost
returns-clause-wire g c = λ d n w bs other. (
  wire_cost g.N.MessageSpec.cost n d w bs other,
  list_wire_cost g.N.MessageSpec.cost n g.N.MessageSpec.COST d w bs other,
)

pub returns-clause-numbers : goal.returns-clause-numbers
returns-clause-numbers g c = λ k. numbers_tested k
