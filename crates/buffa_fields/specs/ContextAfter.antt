-- What a call leaves of a context that it was passed: its depth, and the loan of a budget.
use Rattle.buffa_wire.specs.BudgetLeft.{BudgetLeft}
use denote.Ref.{MutBor}

abbrev pub ContextAfter : Type 0 → Type 0
ContextAfter D = D × (MutBor BudgetLeft × Unit {0})
