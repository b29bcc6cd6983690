use Rattle.std.proofs.Common.{◌-◌, length}
use Rattle.buffa_wire.proofs.MergeLoopLemmas.{CameTo}
use Rattle.buffa_fields.proofs.members.group_field.GroupedFraming.merge.Given as goal

-- fields of the group were merged and paid for
abbrev pub invariant-loop-tag : goal.invariant-loop-tag
invariant-loop-tag g l = CameTo g.N.MessageSpec.merged g.N.MessageSpec.cost (l.depth - 1) (g.N.Blank.meaning l.fn.message) l.fn.buf.now l.fn.ctx.budget.now (g.N.Blank.meaning l.message) l.buf.now l.budget

abbrev pub decreases-loop-tag : goal.decreases-loop-tag
decreases-loop-tag g l = length l.buf.now
