-- The record that a field is kept as, and what that costs. Source: the protobuf encoding guide, "Message Structure".
use Rattle.std.specs.Prelude.{ℕ, zero, suc, ◌+◌, Bool, true, false, List, length, Result, Ok, Err, if◌then◌else◌}
use Rattle.buffa_bytes.specs.declared.wire_type.WireType.{WireType}
use Rattle.buffa_bytes.specs.declared.error.DecodeError.{DecodeError}
use Rattle.buffa_bytes.specs.declared.error.DecodeError.TheVariants.{UnknownFieldLimitExceeded}
use Rattle.buffa_wire.specs.BudgetLeft.{unknown_fields}
use Rattle.buffa_wire.specs.ByField.{FieldCharge}
use Rattle.buffa_wire.specs.RecordReading.{field_at}
use Rattle.buffa_wire.specs.Records.{FieldData}

-- the record of a field whose tag was read, where enough unknown fields are left for all: each record has a byte at
-- least
abbrev pub kept_record_at : ℕ → ℕ → WireType → List ℕ → Result (FieldData × ℕ × List ℕ) DecodeError
kept_record_at d n w bs = field_at d (suc (length bs)) n w bs

-- whether a reading isn't refused for want of unknown fields
abbrev pub had_enough : Result (FieldData × ℕ × List ℕ) DecodeError → Bool
had_enough (Err UnknownFieldLimitExceeded) = false
had_enough _ = true

-- the same of one, with so many more unknown fields left
abbrev pub more_left : ℕ → Result (FieldData × ℕ × List ℕ) DecodeError → Result (FieldData × ℕ × List ℕ) DecodeError
more_left k (Ok x) = Ok (x.0, x.1 + k, x.2)
more_left k (Err e) = Err e

-- the least number of which p holds, if it holds of one below so many; else so many
unfoldable pub least : (ℕ → Bool) → ℕ → ℕ
least p zero = 0
least p (suc k) = if p 0 then 0 else suc (least (λ i. p (suc i)) k)

-- A field costs the fewest unknown fields with which reading it isn't refused for want of them: one for itself and one
-- for each field in its groups; where it has a fault, for each up to the fault.
abbrev pub keep_charge : ℕ → FieldCharge
keep_charge d n w bs = unknown_fields (least (λ s. had_enough (field_at d s n w bs)) (suc (length bs)))
