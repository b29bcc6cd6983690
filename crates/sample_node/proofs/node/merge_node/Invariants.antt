use Rattle.std.proofs.Common.{length}
use Rattle.sample_node.specs.NodeMeaning.{node_cost, node_merged}
use Rattle.buffa_wire.proofs.MergeLoopLemmas.{CameTo}
use Rattle.sample_node.proofs.node.merge_node.Given as goal

-- the fields so far are merged, and what they cost was spent
abbrev pub invariant-loop-rest : goal.invariant-loop-rest
invariant-loop-rest l = CameTo node_merged node_cost l.fn.depth l.fn.node l.fn.bytes l.fn.budget l.node l.rest l.budget

abbrev pub decreases-loop-rest : goal.decreases-loop-rest
decreases-loop-rest l = length l.rest
