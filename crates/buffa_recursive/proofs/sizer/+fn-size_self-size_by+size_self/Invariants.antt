use Rattle.std.proofs.Common.{◌+◌, ◌*◌}
use Rattle.buffa_recursive.proofs.sizer.+fn-size_self-size_by+size_self.Given as goal

-- a message is sized by a function that is passed on, for those in it
abbrev pub decreases-size_by : goal.decreases-size_by
decreases-size_by g l = 2 * g.M.RecursiveType.schema.height l.child.now + 1

abbrev pub decreases-size_self : goal.decreases-size_self
decreases-size_self g l = 2 * g.M.RecursiveType.schema.height l.message.now
