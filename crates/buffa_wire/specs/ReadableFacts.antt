-- Records whose encoding is read back: they are valid, and they fit.
use Rattle.std.specs.Prelude.{ℕ, ◌<◌, ◌^◌, List, [], ◌∷◌, ◌++◌, length}
use Rattle.buffa_bytes.specs.Number.{IsNumber}
use Rattle.buffa_wire.specs.Parse.{AreValid, Fits, FitsFieldData, IsValidFieldData}
use Rattle.buffa_wire.specs.Records.{FieldData, varint, fixed32, fixed64, bytes, group, Records, no_records, one, records_of}

-- both words at once, record by record, as proofs take them
abbrev mutual
  pub Readable : Records → Type 0
  Readable no_records = Unit {0}
  Readable (one n x rs) = IsNumber n × ReadableFieldData x × Readable rs

  pub ReadableFieldData : FieldData → Type 0
  ReadableFieldData (varint v) = v < 2 ^ 64
  ReadableFieldData (fixed32 v) = v < 2 ^ 32
  ReadableFieldData (fixed64 v) = v < 2 ^ 64
  ReadableFieldData (bytes v) = length v < 2 ^ 64
  ReadableFieldData (group rs) = Readable rs

mutual
  pub readable : (rs : Records) → AreValid rs → Fits rs → Readable rs
  readable no_records valid fits = tt
  readable (one n x rs) valid fits = (valid.0, readable_field_data x valid.1 fits.0, readable rs valid.2 fits.1)

  pub readable_field_data : (x : FieldData) → IsValidFieldData x → FitsFieldData x → ReadableFieldData x
  readable_field_data (varint v) valid fits = valid
  readable_field_data (fixed32 v) valid fits = valid
  readable_field_data (fixed64 v) valid fits = valid
  readable_field_data (bytes v) valid fits = fits
  readable_field_data (group rs) valid fits = readable rs valid fits

mutual
  pub readable_fits : (rs : Records) → Readable rs → Fits rs
  readable_fits no_records h = tt
  readable_fits (one n x rs) h = (readable_field_data_fits x h.1, readable_fits rs h.2)

  pub readable_field_data_fits : (x : FieldData) → ReadableFieldData x → FitsFieldData x
  readable_field_data_fits (varint v) h = tt
  readable_field_data_fits (fixed32 v) h = tt
  readable_field_data_fits (fixed64 v) h = tt
  readable_field_data_fits (bytes v) h = h
  readable_field_data_fits (group rs) h = readable_fits rs h

mutual
  pub readable_valid : (rs : Records) → Readable rs → AreValid rs
  readable_valid no_records h = tt
  readable_valid (one n x rs) h = (h.0, readable_field_data_valid x h.1, readable_valid rs h.2)

  pub readable_field_data_valid : (x : FieldData) → ReadableFieldData x → IsValidFieldData x
  readable_field_data_valid (varint v) h = h
  readable_field_data_valid (fixed32 v) h = h
  readable_field_data_valid (fixed64 v) h = h
  readable_field_data_valid (bytes v) h = tt
  readable_field_data_valid (group rs) h = readable_valid rs h

-- ---- joined records
pub valid_joined : (xs ys : List (ℕ × FieldData)) → AreValid (records_of xs) → AreValid (records_of ys) → AreValid (records_of (xs ++ ys))
valid_joined [] ys h k = k
valid_joined (x ∷ xs) ys h k = (h.0, h.1, valid_joined xs ys h.2 k)

pub valid_front : (xs ys : List (ℕ × FieldData)) → AreValid (records_of (xs ++ ys)) → AreValid (records_of xs)
valid_front [] ys h = tt
valid_front (x ∷ xs) ys h = (h.0, h.1, valid_front xs ys h.2)

pub valid_behind : (xs ys : List (ℕ × FieldData)) → AreValid (records_of (xs ++ ys)) → AreValid (records_of ys)
valid_behind [] ys h = h
valid_behind (x ∷ xs) ys h = valid_behind xs ys h.2
