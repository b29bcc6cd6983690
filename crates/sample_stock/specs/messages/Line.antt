-- Words for what shop.Line means, made of stock.proto by protoc-gen-buffa.
use Rattle.buffa_fields.specs.Terms.{FieldData}
use Rattle.std.specs.Prelude.{List, Option, ℕ, ℤ}

abbrev pub Meaning : Type 0
Meaning = List ℕ × (Option ℤ × List (ℕ × FieldData))

-- string good = 1;
abbrev pub good : Meaning → List ℕ
good m = m.0

abbrev pub with_good : List ℕ → Meaning → Meaning
with_good x m = (x, m.1)

-- optional int32 count = 2;
abbrev pub count : Meaning → Option ℤ
count m = m.1.0

abbrev pub with_count : Option ℤ → Meaning → Meaning
with_count x m = (m.0, (x, m.1.1))

-- the fields that aren't declared
abbrev pub unknown_fields : Meaning → List (ℕ × FieldData)
unknown_fields m = m.1.1

abbrev pub with_unknown_fields : List (ℕ × FieldData) → Meaning → Meaning
with_unknown_fields x m = (m.0, (m.1.0, x))
