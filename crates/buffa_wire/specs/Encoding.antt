-- The encoding of records: for each the shortest tag, and its payload with the shortest length.
-- Source: the protobuf encoding guide, "Message Structure" and "Groups".
use Rattle.std.specs.Prelude.{ℕ, Bool, true, false, List, [], ◌∷◌, ◌++◌, Result, Ok, Err}
use Rattle.std.specs.Int.{to_le_bytes, w32, w64}
use Rattle.buffa_bytes.specs.declared.error.EncodeError.{EncodeError}
use Rattle.buffa_bytes.specs.declared.error.EncodeError.TheVariants.{OutOfMemory}
use Rattle.buffa_bytes.specs.declared.wire_type.WireType.{WireType}
use Rattle.buffa_bytes.specs.declared.wire_type.WireType.TheVariants as wire
use Rattle.buffa_bytes.specs.Varint.{varint_encoding}
use Rattle.buffa_bytes.specs.Values.{tag_encoding, delimited_encoding}
use Rattle.buffa_wire.specs.Records.{FieldData, varint, fixed32, fixed64, bytes, group, Records, no_records, one, records_of}

-- the wire type of a record's field
abbrev pub wire_of : FieldData → WireType
wire_of (varint v) = wire.Varint
wire_of (fixed32 v) = wire.Fixed32
wire_of (fixed64 v) = wire.Fixed64
wire_of (bytes bs) = wire.LengthDelimited
wire_of (group rs) = wire.StartGroup

abbrev mutual
  -- what follows the tag; for a group its fields and its end tag
  pub payload_encoding : ℕ → FieldData → List ℕ
  payload_encoding n (varint v) = varint_encoding v
  payload_encoding n (fixed32 v) = to_le_bytes w32 v
  payload_encoding n (fixed64 v) = to_le_bytes w64 v
  payload_encoding n (bytes bs) = delimited_encoding bs
  payload_encoding n (group rs) = fields_encoding rs ++ tag_encoding n wire.EndGroup

  pub fields_encoding : Records → List ℕ
  fields_encoding no_records = []
  fields_encoding (one n x rs) = (tag_encoding n (wire_of x) ++ payload_encoding n x) ++ fields_encoding rs

-- the encoding of a record
abbrev pub tagged_encoding : ℕ → FieldData → List ℕ
tagged_encoding n x = tag_encoding n (wire_of x) ++ payload_encoding n x

-- the joined encodings of the records
abbrev pub records_encoding : List (ℕ × FieldData) → List ℕ
records_encoding rs = fields_encoding (records_of rs)

-- the encodings of values, joined: what a packed record holds
abbrev pub encodings : {V : Type 0} → (V → List ℕ) → List V → List ℕ
encodings encoding [] = []
encodings encoding (v ∷ vs) = encoding v ++ encodings encoding vs

-- the answer of a write that says only whether all was written
abbrev pub write_outcome : Bool → Result (Unit {0}) EncodeError
write_outcome true = Ok tt
write_outcome false = Err OutOfMemory
