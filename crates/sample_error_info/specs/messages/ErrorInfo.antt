-- Words for what google.rpc.ErrorInfo means, made of error_info.proto by protoc-gen-buffa.
use Rattle.buffa_fields.specs.Terms.{FieldData}
use Rattle.std.specs.Prelude.{List, ℕ}

abbrev pub Meaning : Type 0
Meaning = List ℕ × (List ℕ × (List (List ℕ × List ℕ) × List (ℕ × FieldData)))

-- string reason = 1;
abbrev pub reason : Meaning → List ℕ
reason m = m.0

abbrev pub with_reason : List ℕ → Meaning → Meaning
with_reason x m = (x, m.1)

-- string domain = 2;
abbrev pub domain : Meaning → List ℕ
domain m = m.1.0

abbrev pub with_domain : List ℕ → Meaning → Meaning
with_domain x m = (m.0, (x, m.1.1))

-- map<string, string> metadata = 3;
abbrev pub metadata : Meaning → List (List ℕ × List ℕ)
metadata m = m.1.1.0

abbrev pub with_metadata : List (List ℕ × List ℕ) → Meaning → Meaning
with_metadata x m = (m.0, (m.1.0, (x, m.1.1.1)))

-- the fields that aren't declared
abbrev pub unknown_fields : Meaning → List (ℕ × FieldData)
unknown_fields m = m.1.1.1

abbrev pub with_unknown_fields : List (ℕ × FieldData) → Meaning → Meaning
with_unknown_fields x m = (m.0, (m.1.0, (m.1.1.0, x)))
