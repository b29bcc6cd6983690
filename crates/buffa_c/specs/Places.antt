-- What a call tells of the place at which bytes are refused, and what it leaves in the caller's memory.
use Rattle.std.specs.Prelude.{◌≡◌, ◌≢◌, ◌<◌, ◌≤◌, ◌⊎◌, ℕ, List, ◌++◌, map, take, drop, length, Option, None, Some}
use Rattle.buffa_wire.specs.BudgetLeft.{BudgetLeft}
use Rattle.buffa_wire.specs.Message.{FieldRefused}
use Rattle.buffa_locate.specs.Places.{IsPlace}
use Rattle.buffa_locate.specs.declared.place.Place.{Place}
use Rattle.buffa_locate.specs.declared.place.Step.{Step}
use Rattle.buffa_c.specs.declared.limits.Limits.{Limits}
use Rattle.buffa_c.specs.declared.place.PathStep.{PathStep}
use Rattle.buffa_c.specs.declared.answer.TheConstants.{ACCEPTED, OUT_OF_MEMORY, TOO_LONG}
use Rattle.buffa_c.specs.Answers.{AreAccepted, budget_of, number_of_fault}

-- a step as C has it: an index, where there is one
abbrev pub path_step : ℕ → Option ℕ → PathStep
path_step number None = record { number = number; listed = 0; index = 0 }
path_step number (Some index) = record { number = number; listed = 1; index = index }

abbrev pub told_step : Step → PathStep
told_step step = path_step step.number step.index

-- the steps are at the front of the room, as many as it holds, and what follows them there is as it was
abbrev pub LaysPath : List Step → List PathStep → List PathStep → Type 0
LaysPath steps old new = new ≡ take (length old) (map told_step steps) ++ drop (length steps) old

-- Where bytes are refused: the answer is the number of the fault, and what is told beside is the place of the first record that
-- is refused. Elsewhere nothing is told.
pub record TellsPlace {X : Type 0} (merged : ℕ → X → List ℕ → Option X) (cost : ℕ → List ℕ → BudgetLeft) (Says : FieldRefused X) (blank : X) (limits : Limits) (bytes : List ℕ) (answer : ℕ) (old new : List PathStep) (steps offset : ℕ) : Type 0 where
  pub zero : answer ≡ ACCEPTED → AreAccepted (merged limits.depth blank bytes) (cost limits.depth bytes) limits bytes
  pub other : answer ≢ ACCEPTED → answer ≢ OUT_OF_MEMORY → AreAccepted (merged limits.depth blank bytes) (cost limits.depth bytes) limits bytes → ⊥
  pub low : answer ≤ TOO_LONG
  pub long : answer ≡ TOO_LONG → limits.longest < length bytes
  pub too_long : limits.longest < length bytes → answer ≡ TOO_LONG
  pub told :
      answer ≢ ACCEPTED → answer < OUT_OF_MEMORY →
      (place : Place) × IsPlace merged cost Says limits.depth blank bytes (budget_of limits) place × (answer ≡ number_of_fault place.fault)
      × (offset ≡ place.offset) × (steps ≡ length place.path.items) × LaysPath place.path.items old new
  pub kept : (answer ≡ ACCEPTED) ⊎ (OUT_OF_MEMORY ≤ answer) → (new ≡ old) × (steps ≡ 0) × (offset ≡ 0)
