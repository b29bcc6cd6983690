-- What a codec's name says.
use Rattle.std.specs.Prelude.{◌≡◌, ℕ, ℤ, Bool, Option, option_map}
use Rattle.buffa_bytes.specs.Scalars.{int32_of}
use Rattle.buffa_wire.specs.BudgetLeft.{BudgetLeft}
use Rattle.buffa_wire.specs.Enums.{open_number}
use Rattle.buffa_wire.specs.NumberInRecord.{varint_in}
use Rattle.buffa_wire.specs.Records.{FieldData}

-- at any depth and of any budget a record is read as it holds, and a value is written as what holds it
abbrev pub IsOf : {M : Type 0} → (ℕ → BudgetLeft → FieldData → Option M) → (M → FieldData) → (FieldData → Option M) → (M → FieldData) → Type 0
IsOf {M = M} one encoding held holder = ((n : ℕ) (b : BudgetLeft) (d : FieldData) → one n b d ≡ held d) × ((v : M) → encoding v ≡ holder v)

-- the number of an int32 in a record, as the declared value that has it, if one has
abbrev pub enum_in : {E : Type 0} → (ℤ → Option E) → FieldData → Option (Bool × ℤ)
enum_in of_number d = option_map (λ k. open_number of_number (int32_of k)) (varint_in d)
