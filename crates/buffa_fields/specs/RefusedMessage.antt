-- What stands of a message that was refused. Source: the protobuf encoding guide, "Message Structure".
use Rattle.std.specs.Prelude.{◌≡◌, ◌≤◌, ℕ, List, ◌++◌, Some, Result, Ok, Err}
use Rattle.buffa_bytes.specs.declared.error.DecodeError.{DecodeError}
use Rattle.buffa_bytes.specs.declared.wire_type.WireType.{WireType}
use Rattle.buffa_bytes.specs.Readings.{tag_at}
use Rattle.buffa_wire.specs.BudgetLeft.{BudgetLeft}
use Rattle.buffa_wire.specs.Message.{FieldRefused}
use Rattle.buffa_wire.specs.Takes.{Asks, Taker, merged_of}
use Rattle.buffa_fields.specs.Schema.{Schema}

-- of a refused field the member of its number alone may be changed, and the field is refused by this error: from a
-- message that means the old value, under this budget, the members take it with this error, and leave the new value
abbrev pub IsMemberRefused : {M X : Type 0} → Schema M X → FieldRefused X
IsMemberRefused {M} l d old n w bs before e new =
    l.DiffersOnlyAt n old new
    × ((a : M) × (b : M) × (after : BudgetLeft) × (rest : List ℕ) × (l.meaning a ≡ old) × (l.meaning b ≡ new)
    × l.Taken d a n w bs before (let r : Result (Unit {0}) DecodeError = Err e in r) b after rest)

-- where merging fields takes memory: some at the front are merged, and the next one may ask for it, with
-- unknown fields left
pub record MergingTakesMemory {X : Type 0} (takes : Taker X) (asks : ℕ → Asks) (d : ℕ) (old : X) (bytes : List ℕ) (unknown : ℕ) : Type 0 where
  pub front : List ℕ
  pub rest : List ℕ
  pub split : bytes ≡ front ++ rest
  pub mid : X
  pub merged : merged_of takes d old front ≡ Some mid
  pub left : ℕ
  pub within : left ≤ unknown
  pub next : (n : ℕ) × (w : WireType) × (more : List ℕ) × (tag_at rest ≡ Ok (n, w, more)) × asks left d n w more
