-- Words for what buffa.sample.Payment means, made of payment.proto by protoc-gen-buffa.
use Rattle.buffa_fields.specs.Terms.{FieldData}
use Rattle.buffa_fields.specs.declared.meaning.Or.{Or}
use Rattle.buffa_fields.specs.declared.meaning.Or.TheVariants.{Other, This}
use Rattle.std.specs.Prelude.{List, Option, ℕ, ℤ}

abbrev pub Method : Type 0 → Type 0
Method Transfer = Or (List ℕ) (Or ℤ (Or Transfer (Unit {0})))

abbrev pub Meaning : Type 0 → Type 0
Meaning Transfer = ℤ × (Option (Method Transfer) × (List ℕ × List (ℕ × FieldData)))

-- int32 amount = 1;
abbrev pub amount : {Transfer : Type 0} → Meaning Transfer → ℤ
amount m = m.0

abbrev pub with_amount : {Transfer : Type 0} → ℤ → Meaning Transfer → Meaning Transfer
with_amount x m = (x, m.1)

-- oneof method
abbrev pub method : {Transfer : Type 0} → Meaning Transfer → Option (Method Transfer)
method m = m.1.0

abbrev pub with_method : {Transfer : Type 0} → Option (Method Transfer) → Meaning Transfer → Meaning Transfer
with_method x m = (m.0, (x, m.1.1))

-- string card = 2;
abbrev pub card : {Transfer : Type 0} → List ℕ → Method Transfer
card x = This x

-- int32 cash = 3;
abbrev pub cash : {Transfer : Type 0} → ℤ → Method Transfer
cash x = Other (This x)

-- Transfer transfer = 4;
abbrev pub transfer : {Transfer : Type 0} → Transfer → Method Transfer
transfer x = Other (Other (This x))

-- string note = 5;
abbrev pub note : {Transfer : Type 0} → Meaning Transfer → List ℕ
note m = m.1.1.0

abbrev pub with_note : {Transfer : Type 0} → List ℕ → Meaning Transfer → Meaning Transfer
with_note x m = (m.0, (m.1.0, (x, m.1.1.1)))

-- the fields that aren't declared
abbrev pub unknown_fields : {Transfer : Type 0} → Meaning Transfer → List (ℕ × FieldData)
unknown_fields m = m.1.1.1

abbrev pub with_unknown_fields : {Transfer : Type 0} → List (ℕ × FieldData) → Meaning Transfer → Meaning Transfer
with_unknown_fields x m = (m.0, (m.1.0, (m.1.1.0, x)))
