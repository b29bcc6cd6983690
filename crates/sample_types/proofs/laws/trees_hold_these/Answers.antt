use Rattle.std.proofs.Common.{sym}
use Rattle.sample_types.proofs.TreeLemmas.{seen_is}
use Rattle.sample_types.proofs.laws.trees_hold_these.Goals as goal

pub returns : goal.returns
returns c = rw (sym c.tree.view_is) (seen_is _ _)
