use Rattle.buffa_fields.specs.Groups.{group_cost}
use Rattle.buffa_fields.specs.RepeatedGroups.{groups_cost}
use Rattle.buffa_fields_laws.proofs.SpendingLemmas.{broken_cost, cut_cost, other_cost, whole_cost}
use Rattle.buffa_fields_laws.proofs.spending.groups_cost_what_is_in_them.Goals as goal

pub returns-clause-group : goal.returns-clause-group
unfolding group_cost
returns-clause-group g c = λ d m n b end more j tag. whole_cost d b j g.N.MessageSpec.cost n end more m tag

pub returns-clause-no_tag : goal.returns-clause-no_tag
unfolding group_cost
returns-clause-no_tag g c = λ d n b more f j h. cut_cost d b j g.N.MessageSpec.cost n more f h

pub returns-clause-no_payload : goal.returns-clause-no_payload
unfolding group_cost
returns-clause-no_payload g c = λ d m n w b t more f j tag other h. broken_cost d b j g.N.MessageSpec.cost n t more m w f tag other h

pub returns-clause-wire : goal.returns-clause-wire
unfolding group_cost groups_cost
returns-clause-wire g c = λ d n w bs other. other_cost g.N.MessageSpec.cost g.N.MessageSpec.COST d n w bs other
