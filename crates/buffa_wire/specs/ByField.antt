-- A message field by field: what a type says of one field decides what all bytes mean to it.
-- Source: the protobuf encoding guide, "Message Structure".
use Rattle.std.specs.Prelude.{ℕ, List, Option, Some, None, Result, Ok, Err}
use Rattle.buffa_bytes.specs.Readings.{tag_at, skip_at, ◌>>=◌}
use Rattle.buffa_bytes.specs.Scan.{Scanned, scan, parse_all}
use Rattle.buffa_bytes.specs.Scan.Scanned.{ends}
use Rattle.buffa_bytes.specs.declared.wire_type.WireType.{WireType}
use Rattle.buffa_bytes.specs.declared.error.DecodeError.{DecodeError}
use Rattle.buffa_wire.specs.BudgetLeft.{BudgetLeft, costs, nothing}

-- What the field whose tag, of a number and a wire type, was read makes of a value, and what follows the field.
abbrev pub FieldReader : Type 0 → Type 0
FieldReader X = X → ℕ → WireType → List ℕ → Result (X × List ℕ) DecodeError

-- the same of the field at the front, its tag too
abbrev pub next_at : {X : Type 0} → FieldReader X → X → List ℕ → Result (X × List ℕ) DecodeError
next_at field v bs = tag_at bs >>= (λ t. field v t.0 t.1 t.2)

-- the value, if there is one
abbrev pub value_of : {A : Type 0} → Result A DecodeError → Option A
value_of (Ok x) = Some x
value_of (Err e) = None

-- what fields, to the end of the bytes, make of a value
abbrev pub merged_by : {X : Type 0} → FieldReader X → X → List ℕ → Option X
merged_by field v bs = value_of (parse_all (next_at field) v bs)

-- What the field whose tag, of a number and a wire type, was read costs, a malformed one too.
abbrev pub FieldCharge : Type 0
FieldCharge = ℕ → WireType → List ℕ → BudgetLeft

-- a reading that carries no state
abbrev pub stateless : Result (List ℕ) DecodeError → Result (Unit {0} × List ℕ) DecodeError
stateless r = r >>= (λ rest. Ok (tt, rest))

-- what the field at the front costs, and then those behind it; nothing where no tag was read
abbrev pub field_costs : FieldCharge → ℕ → Result (ℕ × WireType × List ℕ) DecodeError → Scanned (Unit {0}) BudgetLeft
field_costs charge d (Ok t) = costs (charge t.0 t.1 t.2) (stateless (skip_at d t.0 t.1 t.2))
field_costs charge d (Err e) = ends nothing

-- what fields cost, to the end of the bytes or to what is no field, which counts too
unfoldable pub cost_by : FieldCharge → ℕ → List ℕ → BudgetLeft
cost_by charge d bs = scan (λ _ rest. field_costs charge d (tag_at rest)) nothing tt bs
