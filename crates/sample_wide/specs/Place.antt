-- Words for what weather.Place means, made of day.proto by protoc-gen-buffa.
use Rattle.buffa_fields.specs.Terms.{FieldData}
use Rattle.std.specs.Prelude.{List, ℕ, ℤ}

abbrev pub Meaning : Type 0
Meaning = ℤ × (ℤ × List (ℕ × FieldData))

-- sint32 latitude = 1;
abbrev pub latitude : Meaning → ℤ
latitude m = m.0

abbrev pub with_latitude : ℤ → Meaning → Meaning
with_latitude x m = (x, m.1)

-- sint32 longitude = 2;
abbrev pub longitude : Meaning → ℤ
longitude m = m.1.0

abbrev pub with_longitude : ℤ → Meaning → Meaning
with_longitude x m = (m.0, (x, m.1.1))

-- the fields that aren't declared
abbrev pub unknown_fields : Meaning → List (ℕ × FieldData)
unknown_fields m = m.1.1

abbrev pub with_unknown_fields : List (ℕ × FieldData) → Meaning → Meaning
with_unknown_fields x m = (m.0, (m.1.0, x))
