-- What bytes mean to a message that is a count of repeated fields: each varint of number 9 counts one, others are
-- passed over. Source: the protobuf encoding guide, "Repeated Elements".
use Rattle.std.specs.Prelude.{◌≡◌, ℕ, zero, suc, ◌+◌, ◌-◌, ◌^◌, ◌==◌, List, [], ◌∷◌, ◌++◌, min, Option, Err, if◌then◌else◌}
use Rattle.buffa_bytes.specs.declared.wire_type.WireType.TheVariants.{Varint}
use Rattle.buffa_wire.specs.BudgetLeft.{BudgetLeft, nothing}
use Rattle.buffa_wire.specs.Records.{FieldData, varint}
use Rattle.buffa_bytes.specs.Values.{tag_encoding}
use Rattle.buffa_bytes.specs.Varint.{varint_encoding}
use Rattle.buffa_wire.specs.ByField.{FieldReader, merged_by}
use Rattle.buffa_wire.specs.Message.{FieldRefused}
use Rattle.sample_types.specs.Fields.{skipped_field, varint_field}

-- one more, but no more than a u64 holds
abbrev pub one_more : ℕ → ℕ
one_more n = min (n + 1) (2 ^ 64 - 1)

abbrev pub count_field : ℕ → FieldReader ℕ
count_field d v n w bs = if n == 9 then varint_field 9 (λ _. one_more v) w bs else skipped_field d v n w bs

abbrev pub count_merged : ℕ → ℕ → List ℕ → Option ℕ
count_merged d v bs = merged_by (count_field d) v bs

-- a refused field leaves the count as it was, and its own fault is told
abbrev pub IsCountRefused : FieldRefused ℕ
IsCountRefused d old n w bs before e new = (new ≡ old) × (count_field d old n w bs ≡ Err e)

-- it costs nothing
abbrev pub count_cost : ℕ → List ℕ → BudgetLeft
count_cost d bs = nothing

-- one field
abbrev pub one_encoding : List ℕ
one_encoding = tag_encoding 9 Varint ++ varint_encoding 0

-- so many fields
abbrev pub count_encoding : ℕ → List ℕ
count_encoding zero = []
count_encoding (suc n) = one_encoding ++ count_encoding n

-- their records
abbrev pub count_records : ℕ → List (ℕ × FieldData)
count_records zero = []
count_records (suc n) = (9, varint 0) ∷ count_records n
