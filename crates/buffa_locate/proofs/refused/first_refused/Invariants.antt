use Rattle.std.proofs.Common.{length}
use Rattle.buffa_wire.proofs.MergeLoopLemmas.{CameTo}
use Rattle.buffa_locate.proofs.refused.first_refused.Given as goal

-- the bytes before the rest were merged and paid for
abbrev pub invariant-fields : goal.invariant-fields
invariant-fields g l =
    CameTo g.M.MessageSpec.merged g.M.MessageSpec.cost l.depth g.M.Blank.blank_is l.bytes l.fn.budget (g.M.Blank.meaning l.message) l.rest l.left

abbrev pub decreases-fields : goal.decreases-fields
decreases-fields g l = length l.rest
