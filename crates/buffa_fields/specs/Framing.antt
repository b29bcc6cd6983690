-- How a field holds a message: as a length and so many bytes, or as a group.
-- Source: the protobuf encoding guide, "Submessages" and "Groups".
use Rattle.std.specs.Prelude.{◌≡◌, ◌≤◌, ℕ, suc, List, [], ◌∷◌, ◌++◌, length, Option, Some, None, if◌then◌else◌}
use Rattle.buffa_bytes.specs.declared.error.DecodeError.{DecodeError}
use Rattle.buffa_bytes.specs.declared.wire_type.WireType.{WireType}
use Rattle.buffa_bytes.specs.Field.{Payload, SomeField}
use Rattle.buffa_bytes.specs.Join.{Join}
use Rattle.buffa_bytes.specs.Number.{IsNumber}
use Rattle.buffa_bytes.specs.Readings.{same_wire}
use Rattle.buffa_wire.specs.BudgetLeft.{BudgetLeft, nothing, plus, units}
use Rattle.buffa_wire.specs.Encoding.{payload_encoding, records_encoding, wire_of}
use Rattle.buffa_wire.specs.Parse.{AreValid, Fits, IsValidFieldData}
use Rattle.buffa_wire.specs.ReadableFacts.{ReadableFieldData}
use Rattle.buffa_wire.specs.Records.{FieldData, field_data_height, records_of}
use Rattle.buffa_wire.specs.Takes.{Asks, Charge, Taker}
use Rattle.buffa_fields.specs.Levels.{AreExactLevels}

-- ---- fields of one wire type
-- what they make of a value, others none
unfoldable pub taken_as : {X : Type 0} → WireType → (ℕ → X → List ℕ → Option X) → Taker X
taken_as wire makes d v n w p = if same_wire wire w then makes d v p else None

-- what they cost, others nothing
unfoldable pub cost_as : WireType → (ℕ → List ℕ → BudgetLeft) → Charge
cost_as wire cost d n w bs = if same_wire wire w then cost d bs else nothing

-- the same of elements, which cost the units of their type too
unfoldable pub each_cost_as : WireType → ℕ → (ℕ → List ℕ → BudgetLeft) → Charge
each_cost_as wire each cost d n w bs = if same_wire wire w then plus (units each) (cost d bs) else nothing

-- ---- messages in fields
-- What is known of a type of messages: how they are merged and written, and that normal ones have valid records and read back.
pub record Messages (X : Type 0) : Type 1 where
  pub merged : ℕ → X → List ℕ → Option X
  pub blank : X
  pub encoding : X → List ℕ
  pub records : X → List (ℕ × FieldData)
  pub levels : X → ℕ
  pub normal : X → Type 0
  pub as_records : (v : X) → encoding v ≡ records_encoding (records v)
  -- what is merged is fields
  pub fields : (d : ℕ) (v u : X) (b : List ℕ) → merged d v b ≡ Some u → Join (SomeField d) b
  pub valid : (v : X) → normal v → AreValid (records_of (records v))
  pub back : (d : ℕ) (v : X) → Fits (records_of (records v)) → normal v → levels v ≤ d → merged d blank (encoding v) ≡ Some v

-- How a field holds a message.
pub record Frame : Type 1 where
  pub wire : WireType
  -- what a payload makes of the message that stands, and at a depth what the message at the front costs
  pub makes : {X : Type 0} → (ℕ → X → List ℕ → Option X) → ℕ → X → List ℕ → Option X
  pub cost : (ℕ → List ℕ → BudgetLeft) → ℕ → List ℕ → BudgetLeft
  -- where it takes memory to merge into the message that stands, and where to make a new one
  pub asks : Asks
  pub asks_new : Asks
  -- what has to be there for a message to be changed
  pub There : List ℕ → Type 0
  -- at a depth and a budget, which faults a message may have that stands, in a field of a number, if these bytes follow the tag
  pub Fault : {X : Type 0} → (ℕ → X → List ℕ → Option X) → (ℕ → List ℕ → BudgetLeft) → ℕ → X → ℕ → List ℕ → BudgetLeft → DecodeError → Type 0
  -- the record of a message by its encoding and its records; what stands before so many bytes of a message, and behind it
  pub field_data : List ℕ → List (ℕ × FieldData) → FieldData
  pub head : ℕ → ℕ → List ℕ
  pub tail : ℕ → List ℕ
  -- when a value is normal inside a field: by whether it is by itself, and by its records
  pub Normal : Type 0 → List (ℕ × FieldData) → Type 0

-- the record of a value
abbrev pub field_data_of_value : {X : Type 0} → Frame → (X → List ℕ) → (X → List (ℕ × FieldData)) → X → FieldData
field_data_of_value f encoding records v = f.field_data (encoding v) (records v)

-- the same of a value of a type of which all this is known
abbrev pub field_data_in : {X : Type 0} → Frame → Messages X → X → FieldData
field_data_in f m = field_data_of_value f m.encoding m.records

-- What these words owe.
pub record HoldsMessages (f : Frame) : Type 1 where
  pub wire_is : (e : List ℕ) (rs : List (ℕ × FieldData)) → wire_of (f.field_data e rs) ≡ f.wire
  pub spelled : (n : ℕ) (e : List ℕ) (rs : List (ℕ × FieldData)) → e ≡ records_encoding rs → f.head n (length e) ++ (e ++ f.tail n) ≡ records_encoding ((n, f.field_data e rs) ∷ [])
  -- the cost is known by the payload
  pub stays : (cost : ℕ → List ℕ → BudgetLeft) (d n : ℕ) (p x : List ℕ) → Payload d n f.wire p → f.cost cost d (p ++ x) ≡ f.cost cost d p
  -- a new message may take memory where one that stands may, and where it was read
  pub asks_more : (d n : ℕ) (w : WireType) (bs : List ℕ) → f.asks d n w bs → f.asks_new d n w bs
  pub asks_read : {X : Type 0} (merged : ℕ → X → List ℕ → Option X) (d n : ℕ) (old new : X) (bs p rest : List ℕ) → Payload d n f.wire p → bs ≡ p ++ rest → f.makes merged d old p ≡ Some new → f.asks_new d n f.wire bs
  -- the record of a normal message is valid, and reads back to the message
  pub valid : {X : Type 0} (m : Messages X) (v : X) → f.Normal (m.normal v) (m.records v) → IsValidFieldData (field_data_in f m v)
  pub back : {X : Type 0} (m : Messages X) (n : ℕ) → IsNumber n → (d : ℕ) (v : X) → ReadableFieldData (field_data_in f m v) → f.Normal (m.normal v) (m.records v) → suc (m.levels v) ≤ d →
      Payload d n f.wire (payload_encoding n (field_data_in f m v)) × (f.makes m.merged d m.blank (payload_encoding n (field_data_in f m v)) ≡ Some v)
  -- and only at a depth of one more than its levels, where these are exact
  pub least : {X : Type 0} (m : Messages X) → AreExactLevels m.merged m.encoding m.records m.normal m.levels → (n : ℕ) → IsNumber n → (d : ℕ) (old v u : X) → ReadableFieldData (field_data_in f m v) → field_data_height (field_data_in f m v) ≤ d →
      f.Normal (m.normal v) (m.records v) → f.makes m.merged d old (payload_encoding n (field_data_in f m v)) ≡ Some u → suc (m.levels v) ≤ d
