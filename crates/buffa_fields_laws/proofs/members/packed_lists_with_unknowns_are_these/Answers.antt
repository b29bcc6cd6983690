use Rattle.std.proofs.Common.{◌++◌, ap}
use Rattle.std.specs.Option.{option_map}
use Rattle.buffa_wire.specs.Enums.{numbers}
use Rattle.buffa_fields_laws.proofs.KeptLemmas.{numbers_cost_each}
use Rattle.buffa_fields.specs.ClosedEnumLists.{kept_numbers_taken, numbers_put}
use Rattle.buffa_fields_laws.proofs.members.packed_lists_with_unknowns_are_these.Goals as goal

pub returns-clause-varints : goal.returns-clause-varints
unfolding kept_numbers_taken
returns-clause-varints g c = λ d n v kept w p ks h. ap (option_map (numbers_put (numbers g.E.Enumeration.of_number g.E.Blank.blank_is) (λ vs us. vs ++ us) n (v, kept))) h

pub returns-clause-refused : goal.returns-clause-refused
unfolding kept_numbers_taken
returns-clause-refused g c = λ d n v kept w p h. ap (option_map (numbers_put (numbers g.E.Enumeration.of_number g.E.Blank.blank_is) (λ vs us. vs ++ us) n (v, kept))) h

pub returns-clause-costs : goal.returns-clause-costs
returns-clause-costs g c = λ d n w p more v u rs payload h. numbers_cost_each (numbers g.E.Enumeration.of_number g.E.Blank.blank_is) d n p more w v u rs payload h
