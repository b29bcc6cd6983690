use Rattle.buffa_recursive.specs.facts.LevelFacts.{semantics_exact}
use Rattle.buffa_fields_laws.proofs.recursive_members.levels_of_messages_that_hold_themselves_are_exact.Goals as goal

pub returns : goal.returns
returns g c = semantics_exact g.M.RecursiveType.COST g.M.RecursiveType.schema g.M.RecursiveType.sound
