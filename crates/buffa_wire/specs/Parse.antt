-- The grammar of records: the fields that are these records.
-- Source: the protobuf encoding guide, "Message Structure" and "Groups".
use Rattle.std.specs.Prelude.{◌≡◌, ◌≢◌, ℕ, zero, suc, ◌+◌, ◌-◌, ◌^◌, ◌<◌, ◌⊎◌, List, [], ◌++◌, length}
use Rattle.std.specs.Int.{from_le_bytes, w32, w64}
use Rattle.buffa_bytes.specs.declared.wire_type.WireType.{WireType}
use Rattle.buffa_bytes.specs.declared.wire_type.WireType.TheVariants as wire
use Rattle.buffa_bytes.specs.declared.error.DecodeError.{DecodeError}
use Rattle.buffa_bytes.specs.declared.error.DecodeError.TheVariants.{RecursionLimitExceeded, UnknownFieldLimitExceeded, InvalidEndGroup}
use Rattle.buffa_bytes.specs.Number.{IsNumber}
use Rattle.buffa_bytes.specs.Field.{IsTag, TagFault, TakesTag}
use Rattle.buffa_bytes.specs.Varint.{IsVarint}
use Rattle.buffa_bytes.specs.PayloadValue.{PayloadValueFault}
use Rattle.buffa_wire.specs.Records.{FieldData, varint, fixed32, fixed64, bytes, group, Records, no_records, one}
use Rattle.buffa_wire.specs.Encoding.{wire_of}

-- f is a tag of number n and wire type w, and a payload of P
abbrev pub FieldOf : (List ℕ → Type 0) → ℕ → WireType → List ℕ → Type 0
FieldOf P n w f = (t : List ℕ) × (p : List ℕ) × IsTag t n w × P p × (f ≡ t ++ p)

abbrev mutual
  -- b is a join of fields, with groups nested at most d deep, that are these records
  pub Parse : ℕ → List ℕ → Records → Type 0
  Parse d b no_records = b ≡ []
  Parse d b (one n x rs) = (f : List ℕ) × (rest : List ℕ) × FieldOf (IsPayload d n x) n (wire_of x) f × Parse d rest rs × (b ≡ f ++ rest)

  -- p is a payload, in a field of number n, that holds x: a varint its value, four or eight bytes the number that they
  -- spell, lowest byte first, a length and so many bytes these bytes, fields and an end tag of number n a group's records
  pub IsPayload : ℕ → ℕ → FieldData → List ℕ → Type 0
  IsPayload d n (varint v) p = IsVarint p v
  IsPayload d n (fixed32 v) p = (length p ≡ 4) × (v ≡ from_le_bytes w32 p)
  IsPayload d n (fixed64 v) p = (length p ≡ 8) × (v ≡ from_le_bytes w64 p)
  IsPayload d n (bytes v) p = (t : List ℕ) × IsVarint t (length v) × (p ≡ t ++ v)
  IsPayload d n (group rs) p = (0 < d) × (b : List ℕ) × (t : List ℕ) × Parse (d - 1) b rs × IsTag t n wire.EndGroup × (p ≡ b ++ t)

-- records without a length of 2^64 or more
abbrev mutual
  pub Fits : Records → Type 0
  Fits no_records = Unit {0}
  Fits (one n x rs) = FitsFieldData x × Fits rs

  pub FitsFieldData : FieldData → Type 0
  FitsFieldData (varint v) = Unit {0}
  FitsFieldData (fixed32 v) = Unit {0}
  FitsFieldData (fixed64 v) = Unit {0}
  FitsFieldData (bytes v) = length v < 2 ^ 64
  FitsFieldData (group rs) = Fits rs

-- records of numbers that a field may have, nested ones too, with data in range
abbrev mutual
  pub AreValid : Records → Type 0
  AreValid no_records = Unit {0}
  AreValid (one n x rs) = IsNumber n × IsValidFieldData x × AreValid rs

  pub IsValidFieldData : FieldData → Type 0
  IsValidFieldData (varint v) = v < 2 ^ 64
  IsValidFieldData (fixed32 v) = v < 2 ^ 32
  IsValidFieldData (fixed64 v) = v < 2 ^ 64
  IsValidFieldData (bytes v) = Unit {0}
  IsValidFieldData (group rs) = AreValid rs

-- records whose data are in range
abbrev mutual
  pub InRange : Records → Type 0
  InRange no_records = Unit {0}
  InRange (one n x rs) = FieldDataInRange x × InRange rs

  pub FieldDataInRange : FieldData → Type 0
  FieldDataInRange (varint v) = v < 2 ^ 64
  FieldDataInRange (fixed32 v) = v < 2 ^ 32
  FieldDataInRange (fixed64 v) = v < 2 ^ 64
  FieldDataInRange (bytes v) = Unit {0}
  FieldDataInRange (group rs) = InRange rs

-- what records take of the unknown fields left: one for each record, nested ones too
abbrev mutual
  pub field_count : Records → ℕ
  field_count no_records = 0
  field_count (one n x rs) = 1 + fields_inside x + field_count rs

  pub fields_inside : FieldData → ℕ
  fields_inside (varint v) = 0
  fields_inside (fixed32 v) = 0
  fields_inside (fixed64 v) = 0
  fields_inside (bytes v) = 0
  fields_inside (group rs) = field_count rs

-- a payload that holds x begins old, new is what follows it, and of s unknown fields left one is spent for the field,
-- and one for each record inside
abbrev pub TakesField : ℕ → ℕ → ℕ → WireType → List ℕ → FieldData → ℕ → List ℕ → Type 0
TakesField d s n w old x left new = (p : List ℕ) × IsPayload d n x p × (wire_of x ≡ w) × (1 + fields_inside x + left ≡ s) × (old ≡ p ++ new)

-- fields that are the records rs begin old, new is what follows them, and of s unknown fields left one is spent for
-- each record, nested ones too
abbrev pub TakesRecords : ℕ → ℕ → List ℕ → Records → ℕ → List ℕ → Type 0
TakesRecords d s old rs left new = (b : List ℕ) × Parse d b rs × (field_count rs + left ≡ s) × (old ≡ b ++ new)

-- Why no field is read after a tag of number n and wire type w, in this order: an end tag, no unknown field left, the
-- payload's fault. G says why no group is read.
abbrev pub InsideFault : (ℕ → ℕ → List ℕ → DecodeError → Type 0) → ℕ → ℕ → WireType → List ℕ → DecodeError → Type 0
InsideFault G s n wire.StartGroup bs e = G s n bs e
InsideFault G s n w bs e = PayloadValueFault w bs e

abbrev pub FieldFaultOf : (ℕ → ℕ → List ℕ → DecodeError → Type 0) → ℕ → ℕ → WireType → List ℕ → DecodeError → Type 0
FieldFaultOf G s n w bs e =
    ((w ≡ wire.EndGroup) × (e ≡ InvalidEndGroup n))
    ⊎ (((w ≢ wire.EndGroup) × (s ≡ 0) × (e ≡ UnknownFieldLimitExceeded))
    ⊎ ((w ≢ wire.EndGroup) × (0 < s) × InsideFault G (s - 1) n w bs e))

-- Why no field begins these bytes: the tag's fault, or what is wrong after it; an end tag of a number in Ends is
-- no fault.
abbrev pub NextFault : (ℕ → Type 0) → (ℕ → ℕ → List ℕ → DecodeError → Type 0) → ℕ → List ℕ → DecodeError → Type 0
NextFault Ends G s bs e =
    TagFault bs e
    ⊎ ((n : ℕ) × (w : WireType) × (rest : List ℕ) × TakesTag bs n w rest × (w ≡ wire.EndGroup → Ends n → ⊥) × FieldFaultOf G s n w rest e)

-- why no rest of a group of number n begins these bytes: its depth, or fields and then the fault of the next one
unfoldable pub GroupRecordsFault : ℕ → ℕ → ℕ → List ℕ → DecodeError → Type 0
GroupRecordsFault zero s n bs e = e ≡ RecursionLimitExceeded
GroupRecordsFault (suc d) s n bs e =
    (rs : Records) × (left : ℕ) × (rest : List ℕ) × TakesRecords d s bs rs left rest × NextFault (λ m. m ≡ n) (GroupRecordsFault d) left rest e

-- why no field is read after its tag
abbrev pub FieldFault : ℕ → ℕ → ℕ → WireType → List ℕ → DecodeError → Type 0
FieldFault d = FieldFaultOf (GroupRecordsFault d)

-- why these bytes are no join of fields: some fields, and then the fault of the next one
abbrev pub RecordsFault : ℕ → ℕ → List ℕ → DecodeError → Type 0
RecordsFault d s bs e =
    (rs : Records) × (left : ℕ) × (rest : List ℕ) × TakesRecords d s bs rs left rest × (0 < length rest) × NextFault (λ m. ⊥) (GroupRecordsFault d) left rest e
