-- Fields of one value, which a codec reads and writes.
-- Source: the protobuf encoding guide, "Message Structure".
use Rattle.std.specs.Prelude.{◌≡◌, ◌≢◌, ℕ, List, [], ◌∷◌, Bool, true, false, Option, Some, None, Result, Ok, Err, if◌then◌else◌}
use Rattle.std.specs.Option.{option_map}
use Rattle.buffa_bytes.specs.declared.error.DecodeError.{DecodeError}
use Rattle.buffa_bytes.specs.declared.error.DecodeError.TheVariants.{OutOfMemory}
use Rattle.buffa_bytes.specs.declared.wire_type.WireType.{WireType}
use Rattle.buffa_bytes.specs.Readings.{check_wire, ◌>>=◌, same_wire}
use Rattle.buffa_wire.specs.BudgetLeft.{nothing}
use Rattle.buffa_wire.specs.Records.{FieldData}
use Rattle.buffa_map.specs.Codec.{HoldsNothing, Reading, ReadingTakesMemory, value_at}
use Rattle.buffa_wire.specs.Takes.{Asks, Charge, Taker}

-- what is read of a whole payload
abbrev pub all_of : {V : Type 0} → Result ((V × Bool) × List ℕ) DecodeError → Option V
all_of (Ok (x, [])) = Some x.0
all_of (Ok (x, b ∷ bs)) = None
all_of (Err e) = None

-- the value that a payload makes of what stood, where the field's wire type is the codec's
abbrev pub value_taken : {V : Type 0} → Reading V → Taker V
value_taken codec d v n w p = if same_wire codec.wire w then all_of (value_at codec d v p) else None

-- the same of a value that may be absent: each payload is read by itself
abbrev pub some_taken : {V : Type 0} → Reading V → Taker (Option V)
some_taken codec d v n w p = option_map (λ x. Some x) (value_taken codec d codec.blank n w p)

-- the value that the field at the front makes of what stood, and what follows it; or its fault
abbrev pub field_value_at : {V : Type 0} → Reading V → ℕ → V → ℕ → WireType → List ℕ → Result ((V × Bool) × List ℕ) DecodeError
field_value_at codec d v n w bs = check_wire n codec.wire w >>= (λ _. value_at codec d v bs)

-- a refused field changes nothing, and its fault is told, unless memory ran out; what is read starts with a value
abbrev pub RefusesAlone : {V X : Type 0} → Reading V → (X → V) → ℕ → X → ℕ → WireType → List ℕ → DecodeError → X → Type 0
RefusesAlone codec start d old n w bs e new = (old ≡ new) × (e ≢ OutOfMemory → field_value_at codec d (start old) n w bs ≡ Err e)

-- it costs nothing
abbrev pub free : Charge
free d n w bs = nothing

-- it takes memory where the field's wire type is the codec's, which takes some, and a whole payload of a byte or more is there
abbrev pub ValueTakesMemory : {V : Type 0} → Reading V → Asks
ValueTakesMemory codec d n w bs = (w ≡ codec.wire) × ReadingTakesMemory codec d bs × (HoldsNothing codec d bs → ⊥)

abbrev pub some_records : {V : Type 0} → (V → FieldData) → ℕ → Option V → List (ℕ × FieldData)
some_records field_data n None = []
some_records field_data n (Some v) = (n, field_data v) ∷ []

abbrev pub records_unless : Bool → List (ℕ × FieldData) → List (ℕ × FieldData)
records_unless true rs = []
records_unless false rs = rs

-- P of the value that is there
abbrev pub IfThere : {V : Type 0} → (V → Type 0) → Option V → Type 0
IfThere P None = Unit {0}
IfThere P (Some v) = P v
