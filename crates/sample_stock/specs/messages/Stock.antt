-- Words for what shop.Stock means, made of stock.proto by protoc-gen-buffa.
use Rattle.buffa_fields.specs.Terms.{FieldData}
use Rattle.std.specs.Prelude.{List, ℕ, ℤ}

abbrev pub Meaning : Type 0
Meaning = List ℕ × (List (List ℕ × ℤ) × List (ℕ × FieldData))

-- string name = 1;
abbrev pub name : Meaning → List ℕ
name m = m.0

abbrev pub with_name : List ℕ → Meaning → Meaning
with_name x m = (x, m.1)

-- map<string, int32> counts = 5;
abbrev pub counts : Meaning → List (List ℕ × ℤ)
counts m = m.1.0

abbrev pub with_counts : List (List ℕ × ℤ) → Meaning → Meaning
with_counts x m = (m.0, (x, m.1.1))

-- the fields that aren't declared
abbrev pub unknown_fields : Meaning → List (ℕ × FieldData)
unknown_fields m = m.1.1

abbrev pub with_unknown_fields : List (ℕ × FieldData) → Meaning → Meaning
with_unknown_fields x m = (m.0, (m.1.0, x))
