use Rattle.std.proofs.Common.{length}
use Rattle.buffa_wire.proofs.MergeLoopLemmas.{CameTo}
use Rattle.buffa_wire.proofs.message.Message.merge.Given as goal

-- the bytes before the rest were merged and paid for
abbrev pub invariant-fields : goal.invariant-fields
invariant-fields g l =
    CameTo g.Self.MessageSpec.merged g.Self.MessageSpec.cost l.fn.ctx.depth (g.Self.Blank.meaning l.fn.self) l.fn.buf.now l.fn.ctx.budget.now (g.Self.Blank.meaning l.self) l.rest l.budget

abbrev pub decreases-fields : goal.decreases-fields
decreases-fields g l = length l.rest
