-- What is left of a budget.
use Rattle.std.specs.Prelude.{◌≡◌, ℕ, ◌+◌, ◌-◌, ◌^◌, ◌<◌, ◌≤◌, ◌⊎◌, List, Result, Ok, Err}
use denote.Ref.{MutBor}
use Rattle.buffa_bytes.specs.declared.error.DecodeError.{DecodeError}
use Rattle.buffa_bytes.specs.declared.error.DecodeError.TheVariants.{ElementMemoryLimitExceeded, UnknownFieldLimitExceeded}
use Rattle.buffa_bytes.specs.Scan.{Scanned}
use Rattle.buffa_bytes.specs.Scan.Scanned.{ends, goes}

-- unknown fields left, and units of element memory left
pub record BudgetLeft : Type 0 where
  pub unknown : ℕ
  pub memory : ℕ

-- no unknown field and no unit
abbrev pub nothing : BudgetLeft
nothing = record { unknown = 0; memory = 0 }

-- no unknown field, and so many units
abbrev pub units : ℕ → BudgetLeft
units n = record { unknown = 0; memory = n }

-- so many unknown fields, and no unit
abbrev pub unknown_fields : ℕ → BudgetLeft
unknown_fields n = record { unknown = n; memory = 0 }

-- where nothing else is said
abbrev pub defaults : BudgetLeft
defaults = record { unknown = 1000000; memory = 2 ^ 28 }

-- both together
abbrev pub plus : BudgetLeft → BudgetLeft → BudgetLeft
plus a b = record { unknown = a.unknown + b.unknown; memory = a.memory + b.memory }

-- what is left of one, another being spent
abbrev pub minus : BudgetLeft → BudgetLeft → BudgetLeft
minus b c = record { unknown = b.unknown - c.unknown; memory = b.memory - c.memory }

-- what is needed by what was read, if it was read
abbrev pub charge_by : {A : Type 0} → Result A DecodeError → (A → BudgetLeft) → BudgetLeft
charge_by (Ok x) f = f x
charge_by (Err e) f = nothing

-- what the piece at the front costs, a malformed one too, and then what those behind it cost
abbrev pub costs : {S : Type 0} → BudgetLeft → Result (S × List ℕ) DecodeError → Scanned S BudgetLeft
costs charge (Ok x) = goes x.0 x.1 (plus charge)
costs charge (Err e) = ends charge

-- one budget has room for what another is
abbrev pub Covers : BudgetLeft → BudgetLeft → Type 0
Covers b c = (c.unknown ≤ b.unknown) × (c.memory ≤ b.memory)

-- of left, need can't be spent
abbrev pub Lacks : BudgetLeft → BudgetLeft → Type 0
Lacks left charge = (left.unknown < charge.unknown) ⊎ (left.memory < charge.memory)

-- of before, need is spent, and after is left
abbrev pub Pays : BudgetLeft → BudgetLeft → BudgetLeft → Type 0
Pays before charge after = (after.unknown + charge.unknown ≡ before.unknown) × (after.memory + charge.memory ≡ before.memory)

-- of before, at most need is spent, and after is left
abbrev pub PaysAtMost : BudgetLeft → BudgetLeft → BudgetLeft → Type 0
PaysAtMost before charge after =
    (after.unknown ≤ before.unknown) × (before.unknown ≤ after.unknown + charge.unknown)
    × (after.memory ≤ before.memory) × (before.memory ≤ after.memory + charge.memory)

-- of before unknown fields left, at most n were spent, and after are left
abbrev pub UnknownsSpent : ℕ → ℕ → ℕ → Type 0
UnknownsSpent n before after = (after ≤ before) × (before ≤ after + n)

-- one of the unknown fields left was taken, where one was there
abbrev pub UnknownTaken : ℕ → ℕ → Type 0
UnknownTaken before after = after ≡ before - 1

-- What a call that took a context left in the budget that was lent with it. In the raw form that a context has at the
-- return, ctx.0 is the depth, and ctx.1.0 the budget.
abbrev pub budget_left : {D X : Type 0} → D × (MutBor X × Unit {0}) → X
budget_left ctx = ctx.1.0.now

-- an error that a budget makes
abbrev pub IsLimit : DecodeError → Type 0
IsLimit UnknownFieldLimitExceeded = Unit {0}
IsLimit ElementMemoryLimitExceeded = Unit {0}
IsLimit _ = ⊥
