use Rattle.std.proofs.Common.{◌∙◌, sym}
use Rattle.buffa_recursive.specs.facts.FixpointFacts.{blank_is}
use Rattle.buffa_recursive.proofs.merge.MergerByInnerMerger.blank.Goals as goal

pub returns : goal.returns
returns g c = sym (g.met.M.RecursiveMeaning.means c.blank.result) ∙ c.blank.ensures ∙ g.met.M.RecursiveMeaning.starts ∙ sym (blank_is g.M.RecursiveType.COST g.M.RecursiveType.schema g.M.RecursiveType.sound)
