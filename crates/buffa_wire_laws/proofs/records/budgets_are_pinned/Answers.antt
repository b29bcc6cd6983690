use Rattle.buffa_wire_laws.proofs.PinLemmas.{budget_is_pinned}
use Rattle.buffa_wire_laws.proofs.records.budgets_are_pinned.Goals as goal

pub returns : goal.returns
returns c = budget_is_pinned
