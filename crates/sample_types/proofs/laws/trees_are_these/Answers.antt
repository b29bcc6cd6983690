use Rattle.sample_types.proofs.TreeLemmas.{tree_cost_is, tree_levels_are, tree_merged_is, tree_records_are, tree_slots_are}
use Rattle.sample_types.proofs.TreeNormalLemmas.{fit_inside, normal_says, only_grown, says_normal, tree_of_more}
use Rattle.sample_types.proofs.TreeRefusedLemmas.{tree_refused, tree_semantics}
use Rattle.sample_types.proofs.laws.trees_are_these.Goals as goal

pub returns-clause-records : goal.returns-clause-records
returns-clause-records c = tree_records_are

pub returns-clause-slots : goal.returns-clause-slots
returns-clause-slots c = tree_slots_are

pub returns-clause-levels : goal.returns-clause-levels
returns-clause-levels c = tree_levels_are

pub returns-clause-merged : goal.returns-clause-merged
returns-clause-merged c = tree_merged_is

pub returns-clause-cost : goal.returns-clause-cost
returns-clause-cost c = tree_cost_is

pub returns-clause-refused : goal.returns-clause-refused
returns-clause-refused c = λ d l es n w bs left e m fs. (tree_refused d n w bs left e l es m fs, λ h. tree_semantics d n w bs left e l es m fs h.0 h.1)

pub returns-clause-normal : goal.returns-clause-normal
returns-clause-normal c = λ l es. (normal_says l es, says_normal c.members_read_back.ensures l es)

pub returns-clause-fits : goal.returns-clause-fits
returns-clause-fits c = λ l es fits.
    ((λ h. tree_of_more (λ t in_it. in_it.0) l es (normal_says l es h)), λ h. says_normal c.members_read_back.ensures l es (fit_inside _ l es fits h))

pub returns-clause-only : goal.returns-clause-only
returns-clause-only c = only_grown
