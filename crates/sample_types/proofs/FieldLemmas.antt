-- What the samples say of a refused field.
use Rattle.std.proofs.Common.{◌≡◌, ℕ, List, Result, Ok, Err}
use Rattle.std.specs.Prelude.{IfErr, OnErr}
use Rattle.buffa_bytes.specs.Readings.{Gives}
use Rattle.buffa_bytes.specs.declared.error.DecodeError.{DecodeError}
use Rattle.buffa_bytes.specs.declared.wire_type.WireType.{WireType}
use Rattle.buffa_wire.specs.BudgetLeft.{BudgetLeft}
use Rattle.sample_types.specs.Count.{IsCountRefused, count_field}

pub count_refused : (d n : ℕ) (w : WireType) (bs rest : List ℕ) (before : BudgetLeft) (old new : ℕ) (r : Result (Unit {0}) DecodeError) → Gives (λ _. (new, rest)) r (count_field d old n w bs) → OnErr r (new ≡ old) →
    IfErr r (λ e. IsCountRefused d old n w bs before e new)
count_refused d n w bs rest before old new (Ok x) gives stays = tt
count_refused d n w bs rest before old new (Err e) gives stays = (stays, gives)
