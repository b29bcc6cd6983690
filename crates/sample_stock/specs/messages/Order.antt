-- Words for what shop.Order means, made of stock.proto by protoc-gen-buffa.
use Rattle.buffa_fields.specs.Terms.{FieldData}
use Rattle.std.specs.Prelude.{Bool, List, Option, ℕ, ℤ}

abbrev pub Meaning : Type 0 → Type 0
Meaning Line = (Bool × ℤ) × (Option (List ℕ) × (List Line × (List (List ℕ × Line) × List (ℕ × FieldData))))

-- State state = 1;
abbrev pub state : {Line : Type 0} → Meaning Line → Bool × ℤ
state m = m.0

abbrev pub with_state : {Line : Type 0} → Bool × ℤ → Meaning Line → Meaning Line
with_state x m = (x, m.1)

-- optional string note = 2;
abbrev pub note : {Line : Type 0} → Meaning Line → Option (List ℕ)
note m = m.1.0

abbrev pub with_note : {Line : Type 0} → Option (List ℕ) → Meaning Line → Meaning Line
with_note x m = (m.0, (x, m.1.1))

-- repeated Line lines = 3;
abbrev pub lines : {Line : Type 0} → Meaning Line → List Line
lines m = m.1.1.0

abbrev pub with_lines : {Line : Type 0} → List Line → Meaning Line → Meaning Line
with_lines x m = (m.0, (m.1.0, (x, m.1.1.1)))

-- map<string, Line> gifts = 4;
abbrev pub gifts : {Line : Type 0} → Meaning Line → List (List ℕ × Line)
gifts m = m.1.1.1.0

abbrev pub with_gifts : {Line : Type 0} → List (List ℕ × Line) → Meaning Line → Meaning Line
with_gifts x m = (m.0, (m.1.0, (m.1.1.0, (x, m.1.1.1.1))))

-- the fields that aren't declared
abbrev pub unknown_fields : {Line : Type 0} → Meaning Line → List (ℕ × FieldData)
unknown_fields m = m.1.1.1.1

abbrev pub with_unknown_fields : {Line : Type 0} → List (ℕ × FieldData) → Meaning Line → Meaning Line
with_unknown_fields x m = (m.0, (m.1.0, (m.1.1.0, (m.1.1.1.0, x))))
