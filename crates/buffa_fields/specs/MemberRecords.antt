-- The records of members, by names that stay folded.
use Rattle.std.specs.Prelude.{ℕ, Bool, List, [], ◌∷◌, Option}
use Rattle.buffa_wire.specs.Records.{FieldData}
use Rattle.buffa_fields.specs.Values.{records_unless, some_records}

unfoldable pub implicit_records : {V : Type 0} → (V → Bool) → (V → FieldData) → ℕ → V → List (ℕ × FieldData)
implicit_records test field_data n v = records_unless (test v) ((n, field_data v) ∷ [])

unfoldable pub explicit_records : {V : Type 0} → (V → FieldData) → ℕ → Option V → List (ℕ × FieldData)
explicit_records field_data n v = some_records field_data n v
