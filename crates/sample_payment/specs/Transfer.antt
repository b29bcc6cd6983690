-- Words for what buffa.sample.Transfer means, made of payment.proto by protoc-gen-buffa.
use Rattle.buffa_fields.specs.Terms.{FieldData}
use Rattle.std.specs.Prelude.{List, ℕ, ℤ}

abbrev pub Meaning : Type 0
Meaning = List ℕ × (ℤ × List (ℕ × FieldData))

-- string to = 1;
abbrev pub to : Meaning → List ℕ
to m = m.0

abbrev pub with_to : List ℕ → Meaning → Meaning
with_to x m = (x, m.1)

-- int32 day = 2;
abbrev pub day : Meaning → ℤ
day m = m.1.0

abbrev pub with_day : ℤ → Meaning → Meaning
with_day x m = (m.0, (x, m.1.1))

-- the fields that aren't declared
abbrev pub unknown_fields : Meaning → List (ℕ × FieldData)
unknown_fields m = m.1.1

abbrev pub with_unknown_fields : List (ℕ × FieldData) → Meaning → Meaning
with_unknown_fields x m = (m.0, (m.1.0, x))
