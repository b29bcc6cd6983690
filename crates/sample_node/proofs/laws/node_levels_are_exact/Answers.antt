use Rattle.buffa_recursive.specs.facts.LevelFacts.{semantics_exact}
use Rattle.sample_node.proofs.NodeSchemaLemmas.{members, members_exact, members_sound}
use Rattle.sample_node.proofs.laws.node_levels_are_exact.Goals as goal

pub returns : goal.returns
returns c = semantics_exact 96 members members_sound members_exact
