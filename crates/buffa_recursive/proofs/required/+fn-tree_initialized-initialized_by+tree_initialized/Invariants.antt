use Rattle.std.proofs.Common.{◌+◌, ◌*◌}
use Rattle.buffa_recursive.proofs.required.+fn-tree_initialized-initialized_by+tree_initialized.Given as goal

-- a message is asked by a function that is passed on, for those in it
abbrev pub decreases-initialized_by : goal.decreases-initialized_by
decreases-initialized_by g l = 2 * g.M.SelfAsked.tree.height l.child.now + 1

abbrev pub decreases-tree_initialized : goal.decreases-tree_initialized
decreases-tree_initialized g l = 2 * g.M.SelfAsked.tree.height l.message.now
