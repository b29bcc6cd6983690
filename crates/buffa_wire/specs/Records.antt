-- Records: what a field says, whatever its spelling. A number, and a varint's value, four or eight bytes as
-- a number, bytes, or the records of a group. Source: the protobuf encoding guide, "Message Structure".
use Rattle.std.specs.Prelude.{◌≡◌, ℕ, suc, max, List, [], ◌∷◌}

mutual
  pub data FieldData : Type 0 where
    varint : ℕ → FieldData
    fixed32 : ℕ → FieldData
    fixed64 : ℕ → FieldData
    bytes : List ℕ → FieldData
    group : Records → FieldData

  pub data Records : Type 0 where
    no_records : Records
    one : ℕ → FieldData → Records → Records

-- data that are a number
abbrev pub IsNumeric : FieldData → Type 0
IsNumeric (varint v) = Unit {0}
IsNumeric (fixed32 v) = Unit {0}
IsNumeric (fixed64 v) = Unit {0}
IsNumeric _ = ⊥

-- data that are neither a number nor a byte or a record
abbrev pub IsEmpty : FieldData → Type 0
IsEmpty (bytes b) = b ≡ []
IsEmpty (group rs) = rs ≡ no_records
IsEmpty _ = ⊥

-- records as a list, and back
abbrev pub records_of : List (ℕ × FieldData) → Records
records_of [] = no_records
records_of (r ∷ rs) = one r.0 r.1 (records_of rs)

abbrev pub list_of : Records → List (ℕ × FieldData)
list_of no_records = []
list_of (one n d rs) = (n, d) ∷ list_of rs

-- how deep groups nest
abbrev mutual
  pub field_data_height : FieldData → ℕ
  field_data_height (varint v) = 0
  field_data_height (fixed32 v) = 0
  field_data_height (fixed64 v) = 0
  field_data_height (bytes bs) = 0
  field_data_height (group rs) = suc (records_height rs)

  pub records_height : Records → ℕ
  records_height no_records = 0
  records_height (one n d rs) = max (field_data_height d) (records_height rs)

abbrev pub height : List (ℕ × FieldData) → ℕ
height [] = 0
height (r ∷ rs) = max (field_data_height r.1) (height rs)

-- a list of records, and how many more fit without new memory
pub record Held : Type 0 where
  pub records : List (ℕ × FieldData)
  pub spare : ℕ
