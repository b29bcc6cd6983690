use Rattle.std.proofs.Common.{◌≡◌}
use Rattle.buffa_c.proofs.PathLemmas.{laid}
use Rattle.buffa_c.proofs.place.lay.Given as goal

-- the steps before this one are laid
abbrev pub invariant-steps : goal.invariant-steps
invariant-steps l = l.room ≡ laid l.path l.initial.room l.at
