use Rattle.std.proofs.Common.{◌≡◌, ◌↔◌, true}
use Rattle.buffa_ext.specs.SetsAndClears.{step_of}
use Rattle.buffa_ext.specs.contracts.sets_and_clears.StepPartialEq.TheImpl.{ghosts}
use Rattle.buffa_ext.specs.declared.sets_and_clears.Step.{Step}
use Rattle.buffa_ext.specs.declared.sets_and_clears.Step.TheVariants.{Set, Clear}
use Rattle.buffa_ext_laws.proofs.EqualStepLemmas.{steps_are, steps_reported}
use Rattle.buffa_ext_laws.proofs.extensions.equal_steps_are_one.Goals as goal

reported : (a b : Step) → (ghosts.eq a b ≡ true) ↔ (step_of a ≡ step_of b)
reported (Set m xs) (Set n ys) = (steps_are (Set m xs) (Set n ys), steps_reported (Set m xs) (Set n ys))
reported (Clear m) (Clear n) = (steps_are (Clear m) (Clear n), steps_reported (Clear m) (Clear n))
reported (Set m xs) (Clear n) = (steps_are (Set m xs) (Clear n), steps_reported (Set m xs) (Clear n))
reported (Clear m) (Set n ys) = (steps_are (Clear m) (Set n ys), steps_reported (Clear m) (Set n ys))

pub returns-clause-step : goal.returns-clause-step
returns-clause-step c = reported
