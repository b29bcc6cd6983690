use Rattle.std.proofs.Common.{◌+◌, ◌*◌, length}
use Rattle.buffa_wire.proofs.MergeLoopLemmas.{CameTo}
use Rattle.buffa_recursive.specs.Fixpoint.{semantics}
use Rattle.buffa_recursive.proofs.merge.+fn-merge_self-take_by+merge_self.Given as goal

-- a message is merged by a function that is passed on, for those in it
abbrev pub decreases-take_by : goal.decreases-take_by
decreases-take_by g l = 2 * l.depth + 1

abbrev pub decreases-merge_self : goal.decreases-merge_self
decreases-merge_self g l = 2 * l.depth

-- the bytes before the rest were merged and paid for
abbrev pub invariant-fields : goal.invariant-fields
invariant-fields g l =
    let t = semantics g.M.RecursiveType.COST g.M.RecursiveType.schema g.M.RecursiveType.sound in
    CameTo t.merged t.cost l.depth l.fn.message l.fn.bytes l.fn.budget l.message l.rest l.budget

abbrev pub decreases-fields : goal.decreases-fields
decreases-fields g l = length l.rest
