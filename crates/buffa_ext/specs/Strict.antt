-- Strict readings of messages: a record of another kind is a fault, and so is one whose encoding isn't merged.
-- Source: the protobuf encoding guide, "Message Structure" and "Last One Wins".
use Rattle.std.specs.Prelude.{◌≡◌, ◌≢◌, ◌↔◌, ◌⊎◌, ℕ, List, [], ◌∷◌, ◌++◌, Option, Some, None}
use Rattle.buffa_bytes.specs.PayloadValue.{PayloadValue, PayloadValueFault, TakesPayloadValue}
use Rattle.buffa_bytes.specs.declared.error.DecodeError.{DecodeError}
use Rattle.buffa_bytes.specs.declared.error.DecodeError.TheVariants.{OutOfMemory}
use Rattle.buffa_bytes.specs.declared.wire_type.WireType.{WireType}
use Rattle.buffa_codec.specs.Strict.{Faultless, unless_found}
use Rattle.buffa_ext.specs.Messages.{AreMerged, encodings_in}
use Rattle.buffa_wire.specs.BudgetLeft.{BudgetLeft}
use Rattle.buffa_wire.specs.Message.{MergeFault}
use Rattle.buffa_wire.specs.Records.{FieldData}

-- the fault of a record of number n that holds no encoding
abbrev pub kind_fault : (FieldData → Option (List ℕ)) → WireType → ℕ → FieldData → Option DecodeError
kind_fault held w n d = unless_found (held d) w n d

module _ {X : Type 0} (merged : X → List ℕ → Option X) (cost : List ℕ → BudgetLeft) (held : FieldData → Option (List ℕ)) (w : WireType) (n : ℕ) where
  -- all records hold encodings, and these are merged into a value by a budget
  abbrev pub AreMessages : X → BudgetLeft → List FieldData → Type 0
  AreMessages old before ds =
      Faultless (kind_fault held w n) ds × (new : X) × (left : BudgetLeft) × AreMerged merged cost (encodings_in held ds) old before new left

  -- a record holds no encoding, or its encoding isn't merged; want of memory is no fault
  abbrev pub MessageRecordFault : FieldData → X → BudgetLeft → DecodeError → Type 0
  MessageRecordFault d old left e = (kind_fault held w n d ≡ Some e) ⊎ ((e ≢ OutOfMemory) × (t : List ℕ) × (held d ≡ Some t) × MergeFault (merged old t) (cost t) left e)

  -- the records before one hold encodings, which are merged; and of that one such is true, by what they made and left
  abbrev pub ReachesStrictly : (FieldData → X → BudgetLeft → Type 0) → X → BudgetLeft → List FieldData → Type 0
  ReachesStrictly P old before ds =
      (front : List FieldData) × (d : FieldData) × (back : List FieldData) × (mid : X) × (left : BudgetLeft) × (ds ≡ front ++ d ∷ back)
      × Faultless (kind_fault held w n) front × AreMerged merged cost (encodings_in held front) old before mid left × P d mid left

  -- the first fault of records
  abbrev pub FirstRecordFault : X → BudgetLeft → List FieldData → DecodeError → Type 0
  FirstRecordFault old before ds e = ReachesStrictly (λ d mid left. MessageRecordFault d mid left e) old before ds

-- ---- packed numbers

-- payloads of wire type w that hold these begin the bytes, one after the other; more follows them, and this is why no payload
-- begins that
abbrev pub FaultBehind : WireType → List PayloadValue → List ℕ → DecodeError → Type 0
FaultBehind w [] bs e = (bs ≢ []) × PayloadValueFault w bs e
FaultBehind w (c ∷ cs) bs e = (rest : List ℕ) × TakesPayloadValue w bs c rest × FaultBehind w cs rest e

-- ---- what a strict reading leaves open

-- records have no fault, or a first one
abbrev pub FaultlessOrFault : (ℕ → List FieldData → Type 0) → (ℕ → List FieldData → DecodeError → Type 0) → Type 0
FaultlessOrFault faultless fault = (n : ℕ) (ds : List FieldData) → faultless n ds ⊎ ((e : DecodeError) × fault n ds e)

-- the first fault is one
abbrev pub OneFault : (ℕ → List FieldData → DecodeError → Type 0) → Type 0
OneFault fault = (n : ℕ) (ds : List FieldData) (e f : DecodeError) → fault n ds e → fault n ds f → e ≡ f

-- records without a fault are read as no value exactly where there is none of them
abbrev pub NoneIsAbsent : {M : Type 0} → (ℕ → List FieldData → Type 0) → (List FieldData → Option M → Type 0) → Type 0
NoneIsAbsent {M = M} faultless reads = (n : ℕ) (ds : List FieldData) (o : Option M) → faultless n ds → reads ds o → (o ≡ None) ↔ (ds ≡ [])
