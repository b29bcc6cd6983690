-- What a refused merge leaves: what the fields before the refused one make of the old value.
use Rattle.std.specs.Prelude.{◌≡◌, ◌≢◌, ◌⊎◌, ℕ, List, ◌++◌, Option, Some, Ok, Err}
use Rattle.buffa_bytes.specs.declared.error.DecodeError.{DecodeError}
use Rattle.buffa_bytes.specs.declared.error.DecodeError.TheVariants.{OutOfMemory}
use Rattle.buffa_bytes.specs.declared.wire_type.WireType.{WireType}
use Rattle.buffa_bytes.specs.declared.wire_type.WireType.TheVariants.{EndGroup}
use Rattle.buffa_wire.specs.BudgetLeft.{BudgetLeft, Pays}
use Rattle.buffa_wire.specs.Message.{IsFieldMerged}
use Rattle.buffa_wire.specs.Pinned.{refusal}
use Rattle.buffa_bytes.specs.Readings.{tag_at}

-- why the field at the front of the bytes isn't merged: no tag is there; or the field whose tag is there is refused, and
-- where memory ran out, that is no end tag
abbrev pub IsFrontRefused : {X : Type 0} → (ℕ → X → List ℕ → Option X) → (ℕ → List ℕ → BudgetLeft) → ℕ → X → List ℕ → BudgetLeft → DecodeError → BudgetLeft → Type 0
IsFrontRefused merged cost d v bs before e after =
    ((tag_at bs ≡ Err e) × (after ≡ before))
    ⊎ ((n : ℕ) × (w : WireType) × (rest : List ℕ) × (tag_at bs ≡ Ok (n, w, rest)) × IsFieldMerged merged cost d v n w rest before (refusal e) v after rest
    × (e ≡ OutOfMemory → w ≢ EndGroup))

-- the fields before the one that is refused were merged, and what they cost was spent
pub record Stops {X : Type 0} (merged : ℕ → X → List ℕ → Option X) (cost : ℕ → List ℕ → BudgetLeft) (d : ℕ) (old : X) (bs : List ℕ) (before : BudgetLeft) (new : X) (after : BudgetLeft) (e : DecodeError) : Type 0 where
  pub front : List ℕ
  pub rest : List ℕ
  pub over : BudgetLeft
  pub split : bs ≡ front ++ rest
  pub means : merged d old front ≡ Some new
  pub paid : Pays before (cost d front) over
  pub refused : IsFrontRefused merged cost d new rest over e after
