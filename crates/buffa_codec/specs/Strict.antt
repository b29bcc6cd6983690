-- Strict readings: a record that a codec passes over is a fault, and of several faults the first is told.
-- Source: the protobuf encoding guide, "Message Structure" and "Packed Repeated Fields".
use Rattle.std.specs.Prelude.{◌≡◌, ◌⊎◌, ℕ, List, [], ◌∷◌, ◌++◌, Option, Some, None, Result, Ok, Err, if◌then◌else◌}
use Rattle.std.specs.List.{AllByRecursion}
use Rattle.std.specs.Str.{is_utf8}
use Rattle.buffa_bytes.specs.PayloadValue.{PayloadValue, payload_value_at}
use Rattle.buffa_bytes.specs.Scan.{Scanned, scan}
use Rattle.buffa_bytes.specs.Scan.Scanned.{ends, goes}
use Rattle.buffa_bytes.specs.declared.wire_type.WireType.{WireType}
use Rattle.buffa_bytes.specs.declared.wire_type.WireType.TheVariants.{LengthDelimited}
use Rattle.buffa_bytes.specs.declared.error.DecodeError.{DecodeError}
use Rattle.buffa_bytes.specs.declared.error.DecodeError.TheVariants.{InvalidUtf8, OutOfMemory, WireTypeMismatch}
use Rattle.buffa_wire.specs.BudgetLeft.{BudgetLeft}
use Rattle.buffa_wire.specs.Encoding.{wire_of}
use Rattle.buffa_wire.specs.Records.{FieldData, bytes}

-- an error is a fault, or memory ran out where a request may be refused
abbrev pub IsFaultOrFull : (DecodeError → Type 0) → Type 0 → DecodeError → Type 0
IsFaultOrFull Fault asks e = Fault e ⊎ ((e ≡ OutOfMemory) × asks)

-- ---- one value

-- no record has a fault
abbrev pub Faultless : (FieldData → Option DecodeError) → List FieldData → Type 0
Faultless fault ds = AllByRecursion (λ d. fault d ≡ None) ds

-- a record has this fault, and those before it have none
abbrev pub FirstFault : (FieldData → Option DecodeError) → List FieldData → DecodeError → Type 0
FirstFault fault ds e = (front : List FieldData) × (d : FieldData) × (back : List FieldData) × (ds ≡ front ++ d ∷ back) × Faultless fault front × (fault d ≡ Some e)

-- the fault of a record of number n in which nothing of wire type w was found
abbrev pub unless_found : {A : Type 0} → Option A → WireType → ℕ → FieldData → Option DecodeError
unless_found (Some x) w n d = None
unless_found None w n d = Some (WireTypeMismatch n w (wire_of d))

abbrev pub bytes_fault : ℕ → FieldData → Option DecodeError
bytes_fault n (bytes b) = None
bytes_fault n d = Some (WireTypeMismatch n LengthDelimited (wire_of d))

abbrev pub string_fault : ℕ → FieldData → Option DecodeError
string_fault n (bytes b) = if is_utf8 b then None else Some InvalidUtf8
string_fault n d = Some (WireTypeMismatch n LengthDelimited (wire_of d))

-- ---- packed numbers

-- the bytes end, or the payload at the front is passed, or it is the fault
abbrev pub payload_passed : Result (PayloadValue × List ℕ) DecodeError → Scanned (Unit {0}) (Option DecodeError)
payload_passed (Ok c) = goes tt c.1 (λ r. r)
payload_passed (Err e) = ends (Some e)

abbrev pub packed_step : WireType → List ℕ → Scanned (Unit {0}) (Option DecodeError)
packed_step w [] = ends None
packed_step w (b ∷ bs) = payload_passed (payload_value_at w (b ∷ bs))

-- why bytes aren't payloads of wire type w to their end: the fault of the first that is none
unfoldable pub packed_fault : WireType → List ℕ → Option DecodeError
packed_fault w bs = scan (λ _ rest. packed_step w rest) None tt bs

-- the fault of a record of a list of numbers: bytes are packed ones
abbrev pub number_list_fault : (FieldData → Option ℕ) → WireType → ℕ → FieldData → Option DecodeError
number_list_fault found w n (bytes bs) = packed_fault w bs
number_list_fault found w n d = unless_found (found d) w n d

-- ---- lists

-- the records are elements, each by what those before it leave of a budget
abbrev pub AreElements : (BudgetLeft → FieldData → Type 0) → (BudgetLeft → FieldData → BudgetLeft → Type 0) → BudgetLeft → List FieldData → BudgetLeft → Type 0
AreElements IsElement leaves b [] left = left ≡ b
AreElements IsElement leaves b (d ∷ ds) left = (mid : BudgetLeft) × IsElement b d × leaves b d mid × AreElements IsElement leaves mid ds left

-- a record has this fault, by what those before it leave, which are elements
abbrev pub FirstElementFault : (BudgetLeft → FieldData → Type 0) → (BudgetLeft → FieldData → DecodeError → Type 0) → (BudgetLeft → FieldData → BudgetLeft → Type 0) → BudgetLeft → List FieldData → DecodeError → Type 0
FirstElementFault IsElement Fault leaves b ds e =
    (front : List FieldData) × (d : FieldData) × (back : List FieldData) × (mid : BudgetLeft) × (ds ≡ front ++ d ∷ back)
    × AreElements IsElement leaves b front mid × Fault mid d e
