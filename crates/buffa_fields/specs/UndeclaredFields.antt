-- What a field does that a message doesn't declare and keeps. Source: the protobuf encoding guide, "Message Structure".
use Rattle.std.specs.Prelude.{◌≡◌, ◌⊎◌, ℕ, Bool, true, List, [], ◌∷◌, ◌++◌, Option, Some, None, Result, Ok, Err, IsOk}
use Rattle.std.specs.Option.{option_map}
use Rattle.buffa_bytes.specs.declared.wire_type.WireType.{WireType}
use Rattle.buffa_bytes.specs.declared.error.DecodeError.{DecodeError}
use Rattle.buffa_wire.specs.Parse.{TakesField}
use Rattle.buffa_wire.specs.RecordReading.{RecordTakesMemory, field_at}
use Rattle.buffa_wire.specs.Records.{FieldData}
use Rattle.buffa_wire.specs.KeptField.{kept_record_at}
use Rattle.buffa_wire.specs.Takes.{Asks, Taker}

abbrev pub record_in : Result (FieldData × ℕ × List ℕ) DecodeError → Option FieldData
record_in (Ok x) = Some x.0
record_in (Err e) = None

-- it goes behind the others
abbrev pub keep_takes : Taker (List (ℕ × FieldData))
keep_takes d v n w p = option_map (λ x. v ++ (n, x) ∷ []) (record_in (kept_record_at d n w p))

-- with so many unknown fields left, keeping a field takes memory where reading it does, or where it is read
abbrev pub KeepTakesMemory : ℕ → Asks
KeepTakesMemory s d n w bs = RecordTakesMemory d s w bs ⊎ IsOk (field_at d s n w bs)

-- a field of number n and wire type w is there behind its tag, and of s unknown fields left it has its own, and one for
-- each inside
abbrev pub IsFieldThere : ℕ → ℕ → ℕ → WireType → List ℕ → Type 0
IsFieldThere d s n w bs = (x : FieldData) × (left : ℕ) × (rest : List ℕ) × TakesField d s n w bs x left rest

-- each record has a number of P
abbrev pub AllNumbers : (ℕ → Bool) → List (ℕ × FieldData) → Type 0
AllNumbers P [] = Unit {0}
AllNumbers P (y ∷ ys) = (P y.0 ≡ true) × AllNumbers P ys
