-- The records that values of the program stand for.
use Rattle.std.specs.Prelude.{◌≡◌, ℕ, ◌-◌, Bool, List, map, vec_len, vec_capacity}
use Rattle.buffa_wire.specs.Records.{FieldData, varint, fixed32, fixed64, bytes, group, records_of, Held}
use Rattle.buffa_wire.specs.declared.unknown_fields.UnknownField.{UnknownField}
use Rattle.buffa_wire.specs.declared.unknown_fields.UnknownFieldData.{UnknownFieldData}
use Rattle.buffa_wire.specs.declared.unknown_fields.UnknownFieldData.TheVariants.{Varint, Fixed32, Fixed64, LengthDelimited, Group}
use Rattle.buffa_wire.specs.declared.unknown_fields.UnknownFields.TheInside.{Inside}

abbrev pub field_data_of : UnknownFieldData → FieldData
field_data_of (Varint v) = varint v
field_data_of (Fixed32 v) = fixed32 v
field_data_of (Fixed64 v) = fixed64 v
field_data_of (LengthDelimited bs) = bytes bs.items
field_data_of (Group fs) = group (records_of fs.records)

abbrev pub record_of : UnknownField → ℕ × FieldData
record_of f = (f.number, field_data_of f.payload)

abbrev pub records_in : List UnknownField → List (ℕ × FieldData)
records_in fs = map record_of fs

abbrev pub held : Inside → Held
held a = record { records = records_in a.fields.items; spare = vec_capacity a.fields - vec_len a.fields }

-- a call of f at a field of record r answers b, and leaves g
abbrev pub CalledAtRecord : {F : Type 0} → (F → UnknownField → Bool → F → Type 0) → F → ℕ × FieldData → Bool → F → Type 0
CalledAtRecord R f r b g = (x : UnknownField) × (record_of x ≡ r) × R f x b g

-- the test f of fields goes by their records alone, as p does, and a call leaves f as it is
abbrev pub AnswersRecords : {F : Type 0} → (F → UnknownField → Bool → F → Type 0) → F → (ℕ × FieldData → Bool) → Type 0
AnswersRecords {F} R f p = (x : UnknownField) (b : Bool) (g : F) → R f x b g → (b ≡ p (record_of x)) × (g ≡ f)
