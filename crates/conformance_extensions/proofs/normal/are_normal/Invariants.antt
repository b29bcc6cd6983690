use Rattle.std.proofs.Common.{drop, map}
use Rattle.std.specs.List.{AllByRecursion}
use Rattle.conformance_extensions.specs.Normal.{IsNormal}
use Rattle.conformance_extensions.proofs.normal.are_normal.Given as goal

-- where the rest are normal, all are
abbrev pub invariant-loop-message : goal.invariant-loop-message
invariant-loop-message g l =
    AllByRecursion (λ v. IsNormal (g.M.MessageSpec.normal v) (g.M.MessageSpec.levels v) (g.M.MessageSpec.records v)) (map g.M.Blank.meaning (drop l.message-index l.messages))
    → AllByRecursion (λ v. IsNormal (g.M.MessageSpec.normal v) (g.M.MessageSpec.levels v) (g.M.MessageSpec.records v)) (map g.M.Blank.meaning l.messages)
