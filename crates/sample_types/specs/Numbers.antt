-- What bytes mean to the messages of one int32 and of two: fields of number 1, and of number 2, are the values, others are
-- passed over. Source: the protobuf encoding guide, "Message Structure".
use Rattle.std.specs.Prelude.{◌≡◌, ℕ, ◌==◌, ℤ, List, Result, OnErr, if◌then◌else◌}
use Rattle.buffa_bytes.specs.declared.error.DecodeError.{DecodeError}
use Rattle.buffa_bytes.specs.declared.wire_type.WireType.{WireType}
use Rattle.buffa_bytes.specs.Readings.{Gives}
use Rattle.buffa_wire.specs.BudgetLeft.{BudgetLeft}
use Rattle.buffa_wire.specs.ByField.{FieldReader}
use Rattle.buffa_map.specs.Scalars.{int32_reading}
use Rattle.buffa_wire.specs.Message.{FieldTaken}
use Rattle.buffa_wire.specs.Takes.{Taker}
use Rattle.buffa_fields.specs.Schema.{both_take, passes}
use Rattle.buffa_fields.specs.Values.{value_taken}
use Rattle.sample_types.specs.Fields.{int32_field, skipped_field}

abbrev pub flat_takes : Taker (ℤ × Unit {0})
flat_takes = both_take 1 (value_taken int32_reading) passes

abbrev pub two_takes : Taker (ℤ × (ℤ × Unit {0}))
two_takes = both_take 1 (value_taken int32_reading) (both_take 2 (value_taken int32_reading) passes)

-- ---- what a call reads of one field

abbrev pub two_field : ℕ → FieldReader (ℤ × ℤ)
two_field d v n w bs =
    if n == 1 then int32_field 1 (λ x. (x, v.1)) w bs
    else (if n == 2 then int32_field 2 (λ x. (v.0, x)) w bs else skipped_field d v n w bs)

-- it was read, or refused by its fault, and then the value stays; nothing was spent
abbrev pub IsReadAlone : {X : Type 0} → Result (X × List ℕ) DecodeError → X → Result (Unit {0}) DecodeError → X → BudgetLeft → BudgetLeft → List ℕ → Type 0
IsReadAlone field old r new before after rest = Gives (λ _. (new, rest)) r field × OnErr r (new ≡ old) × (after ≡ before)

-- where a message takes fields so, each is read as by this reader of what it says, or refused
abbrev pub ReadsAlone : {M X : Type 0} → FieldTaken M → (ℕ → FieldReader X) → (M → X) → Type 0
ReadsAlone {M} taken field says =
    (d n : ℕ) (old new : M) (w : WireType) (bs rest : List ℕ) (a b : BudgetLeft) (r : Result (Unit {0}) DecodeError) → taken d old n w bs a r new b rest →
    IsReadAlone (field d (says old) n w bs) (says old) r (says new) a b rest
