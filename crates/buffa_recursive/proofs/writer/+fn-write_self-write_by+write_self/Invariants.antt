use Rattle.std.proofs.Common.{◌+◌, ◌*◌}
use Rattle.buffa_recursive.proofs.writer.+fn-write_self-write_by+write_self.Given as goal

-- a message is written by a function that is passed on, for those in it
abbrev pub decreases-write_by : goal.decreases-write_by
decreases-write_by g l = 2 * g.M.RecursiveType.schema.height l.child.now + 1

abbrev pub decreases-write_self : goal.decreases-write_self
decreases-write_self g l = 2 * g.M.RecursiveType.schema.height l.message.now
