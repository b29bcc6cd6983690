use Rattle.std.proofs.Common.{◌≡◌, take, true}
use Rattle.std.specs.List.{list_all}
use Rattle.buffa_recursive.proofs.required.list_initialized.Given as goal

-- the messages so far have all
abbrev pub invariant-loop-message : goal.invariant-loop-message
invariant-loop-message g l = list_all g.M.SelfAsked.asking.whole (take l.message-index l.list.items) ≡ true
