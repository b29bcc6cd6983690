use Rattle.std.proofs.Common.{length}
use Rattle.buffa_wire.proofs.MergeLoopLemmas.{CameTo}
use Rattle.buffa_sets.specs.Set.{set_cost, set_merged}
use Rattle.buffa_sets.proofs.set.merge.Given as goal

-- the fields so far are merged, and what they cost was spent
abbrev pub invariant-fields : goal.invariant-fields
invariant-fields l = CameTo set_merged set_cost l.fn.ctx.depth l.fn.records.records l.fn.buf.now l.fn.ctx.budget.now l.records.records l.rest l.budget

abbrev pub decreases-fields : goal.decreases-fields
decreases-fields l = length l.rest
