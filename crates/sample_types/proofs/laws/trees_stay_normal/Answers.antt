use Rattle.std.proofs.Common.{◌≡◌, true, pos, []}
use Rattle.sample_types.proofs.TreeNormalLemmas.{IsInside, empty, says_normal, tree_stays, tree_stays_normal}
use Rattle.sample_types.proofs.laws.trees_stay_normal.Goals as goal

pub returns-clause-merged : goal.returns-clause-merged
returns-clause-merged c = tree_stays_normal c.members_read_back.ensures

pub returns-clause-all : goal.returns-clause-all
returns-clause-all c = λ p closed. tree_stays (λ t. p t ≡ true) closed

pub returns-clause-blank : goal.returns-clause-blank
returns-clause-blank c = says_normal c.members_read_back.ensures (pos 0) [] (empty IsInside)
