-- What the records of a list cost that are read as values.
use Rattle.std.specs.Prelude.{◌≡◌, List, [], ◌∷◌, Option, Some, None}
use Rattle.buffa_wire.specs.BudgetLeft.{BudgetLeft, Covers, defaults, nothing, plus}
use Rattle.buffa_wire.specs.Records.{FieldData}

-- what a record costs if it is read as a value
abbrev pub cost_if : {M : Type 0} → BudgetLeft → Option M → BudgetLeft
cost_if cost (Some v) = cost
cost_if cost None = nothing

-- the records are read one after the other from what is left, and those that are read as values cost so much together
abbrev pub Costs : {M : Type 0} → (BudgetLeft → FieldData → Option M) → (BudgetLeft → FieldData → BudgetLeft → Type 0) → (FieldData → BudgetLeft) → BudgetLeft → List FieldData → BudgetLeft → Type 0
Costs one leaves cost b [] total = total ≡ nothing
Costs one leaves cost b (d ∷ ds) total =
    (mid : BudgetLeft) × (rest : BudgetLeft) × leaves b d mid × Costs one leaves cost mid ds rest × (total ≡ plus (cost_if (cost d) (one b d)) rest)

-- however records are read so from a default budget, they cost no more than it has
abbrev pub StaysWithin : {M : Type 0} → (BudgetLeft → FieldData → Option M) → (BudgetLeft → FieldData → BudgetLeft → Type 0) → (FieldData → BudgetLeft) → Type 0
StaysWithin one leaves cost = (ds : List FieldData) (total : BudgetLeft) → Costs one leaves cost defaults ds total → Covers defaults total
