-- What is told of a place.
use Rattle.std.proofs.Common.{◌≡◌, inl, inr, ℕ, ◌<◌, ◌≤◌, List, length, Option, None, Some, IsSome, ◌∙◌, refl, sym, subst, arith}
use Rattle.std.specs.Option.{MatchOption}
use Rattle.std.proofs.lemmas.Bool.{false≢true}
use Rattle.buffa_bytes.specs.declared.error.DecodeError.{DecodeError}
use Rattle.buffa_bytes.specs.declared.error.DecodeError.TheVariants.{OutOfMemory}
use Rattle.buffa_wire.specs.BudgetLeft.{BudgetLeft}
use Rattle.buffa_wire.specs.Message.{FieldRefused, MergeFault}
use Rattle.buffa_locate.specs.Places.{IsPlace}
use Rattle.buffa_locate.specs.declared.place.Place.{Place}
use Rattle.buffa_c.specs.Answers.{AreAccepted, budget_of, number_of_fault}
use Rattle.buffa_c.specs.Places.{LaysPath, TellsPlace}
use Rattle.buffa_c.specs.declared.limits.Limits.{Limits}
use Rattle.buffa_c.specs.declared.place.PathStep.{PathStep}

-- of an option that is a place, what is said of it is said of the place
pub found_place : (Nothing : Type 0) (Found : Place → Type 0) (found : Option Place) (place : Place) → found ≡ Some place → MatchOption found Nothing Found → Found place
found_place Nothing Found found place is said = subst (λ z. MatchOption z Nothing Found) is said

-- what is refused isn't accepted
not_accepted : {X : Type 0} (merged : Option X) (cost : BudgetLeft) (limits : Limits) (bytes : List ℕ) (fault : DecodeError) → MergeFault merged cost (budget_of limits) fault → AreAccepted merged cost limits bytes → ⊥
not_accepted merged cost limits bytes fault (inl lacks) accepted = accepted.left lacks
not_accepted merged cost limits bytes fault (inr (none, _)) accepted = false≢true (subst IsSome none accepted.means)

pub tells_place : {X : Type 0} (merged : ℕ → X → List ℕ → Option X) (cost : ℕ → List ℕ → BudgetLeft) (Says : FieldRefused X) (blank : X) (limits : Limits) (bytes : List ℕ) (place : Place) (old new : List PathStep) (answer steps : ℕ) →
    IsPlace merged cost Says limits.depth blank bytes (budget_of limits) place → length bytes ≤ limits.longest → answer ≡ number_of_fault place.fault → 0 < answer → answer < 15 → (answer ≡ 14 → place.fault ≡ OutOfMemory) →
    LaysPath place.path.items old new → steps ≡ length place.path.items → TellsPlace merged cost Says blank limits bytes answer old new steps place.offset
tells_place merged cost Says blank limits bytes place old new answer steps is short number positive small full laid counted = record {
  zero = λ none. absurd (omega (arith, none, positive));
  other = λ _ _ accepted. not_accepted (merged limits.depth blank bytes) (cost limits.depth bytes) limits bytes is.found.fault is.first.why accepted;
  low = omega (arith, small);
  long = λ n. absurd (omega (arith, n, small));
  too_long = λ more. absurd (omega (arith, more, short));
  told = λ _ _. (place, is, number, refl, counted, laid);
  kept = elim [
    | inl none ↦ absurd (omega (arith, none, positive))
    | inr high ↦ absurd (is.first.tells (sym is.fault ∙ full (omega (arith, high, small))))
  ];
}
