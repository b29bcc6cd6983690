-- How deep values nest, exactly: at no lesser depth is their encoding merged, whatever it is merged into.
-- Source: the protobuf encoding guide, "Submessages" and "Groups".
use Rattle.std.specs.Prelude.{◌≡◌, ℕ, ◌<◌, ◌≤◌, List, Option, Some, None}
use Rattle.buffa_bytes.specs.Number.{IsNumber}
use Rattle.buffa_wire.specs.Encoding.{payload_encoding, wire_of}
use Rattle.buffa_wire.specs.Parse.{Fits}
use Rattle.buffa_wire.specs.ReadableFacts.{ReadableFieldData}
use Rattle.buffa_wire.specs.Records.{FieldData, field_data_height, records_of}
use Rattle.buffa_wire.specs.Takes.{Taker}

-- what a type of messages says of the depth of its values is exact: at a lesser one the encoding of a value that fits is merged
-- into none
abbrev pub AreExactLevels : {X : Type 0} → (ℕ → X → List ℕ → Option X) → (X → List ℕ) → (X → List (ℕ × FieldData)) → (X → Type 0) → (X → ℕ) → Type 0
AreExactLevels {X} merged encoding records normal levels =
    (d : ℕ) (old v : X) → Fits (records_of (records v)) → normal v → d < levels v → merged d old (encoding v) ≡ None

-- a record that nests no deeper than the depth is taken as it is written: of some value it makes another
abbrev pub IsTakenWritten : {X : Type 0} → Taker X → ℕ → ℕ × FieldData → Type 0
IsTakenWritten {X} takes d y =
    IsNumber y.0 × ReadableFieldData y.1 × (field_data_height y.1 ≤ d) × (old : X) × (new : X) × (takes d old y.0 (wire_of y.1) (payload_encoding y.0 y.1) ≡ Some new)
