-- What is told of a fault.
use Rattle.std.proofs.Common.{◌≡◌, Option, None, Result, Ok, Err, ◌∙◌}
use Rattle.std.specs.Prelude.{IfErr}
use Rattle.std.specs.Result.{IsErrAnd}
use Rattle.buffamap.specs.declared.fault.Fault.{Fault}
use Rattle.buffamap.specs.Fault.{SaysNone}

-- a fault that is passed on says what it said, of what says none where that does
pub passes_none : {A B T : Type 0} (r : Result T Fault) (f : Fault) (o : Option A) (p : Option B) → IsErrAnd r (λ g. g ≡ f) → SaysNone o f → (o ≡ None → p ≡ None) → IfErr r (SaysNone p)
passes_none (Ok x) f o p h k none = tt
passes_none (Err g) f o p h k none = λ real. let x = k (λ e. real (h ∙ e)) in (h ∙ x.0, none x.1)
