use Rattle.buffa_wire.specs.Enums.{numbers}
use Rattle.buffa_fields_laws.proofs.KeptLemmas.{number_cost_each}
use Rattle.buffa_fields.specs.facts.ClosedEnumFieldFacts.{number_taken}
use Rattle.buffa_fields_laws.proofs.members.explicit_members_with_unknowns_are_these.Goals as goal

pub returns-clause-number : goal.returns-clause-number
returns-clause-number g c = λ d n k v kept p h. number_taken (numbers g.E.Enumeration.of_number g.E.Blank.blank_is) d n k p (v, kept) h

pub returns-clause-costs : goal.returns-clause-costs
returns-clause-costs g c = λ d n w p more v u rs payload h. number_cost_each (numbers g.E.Enumeration.of_number g.E.Blank.blank_is) d n p more w v u rs payload h
