-- What contracts leave open: nothing, but for what is said beside the laws.
use Rattle.std.specs.Prelude.{◌≡◌, ◌≢◌, ◌+◌, ◌<◌, ◌↔◌, ◌≤◌, ℕ, ◌⊎◌, List, length, take, Option, Result, Ok, Err}
use Rattle.buffa_bytes.specs.declared.wire_type.WireType.{WireType}
use Rattle.buffa_bytes.specs.declared.error.DecodeError.{DecodeError}
use Rattle.buffa_bytes.specs.declared.error.DecodeError.TheVariants.{OutOfMemory}
use Rattle.buffa_bytes.specs.declared.error.EncodeError.{EncodeError}
use Rattle.buffa_bytes.specs.Field.{IsTag}
use Rattle.buffa_bytes.specs.Unread.{LeavesUnlessFull, past_no_payload, past_no_delimited}
use Rattle.buffa_wire.specs.BudgetLeft.{BudgetLeft, Lacks, Pays, UnknownTaken}
use Rattle.buffa_wire.specs.Cache.{Cache}
use Rattle.buffa_wire.specs.Message.{IsFieldMerged, IsMerged, IsMergedAlone, IsInside, MessageFault}
use Rattle.buffa_wire.specs.Parse.{FieldFault, Parse, RecordsFault, TakesField, field_count}
use Rattle.buffa_wire.specs.Passes.{Consumes, IsSized, IsSmall, IsWritten}
use Rattle.buffa_wire.specs.Records.{FieldData, records_of}

abbrev pub done : {E : Type 0} → Result (Unit {0}) E
done = Ok tt

abbrev pub refusal : {E : Type 0} → E → Result (Unit {0}) E
refusal e = Err e

-- what is left of refused bytes: of a length and so many bytes, and of a payload
abbrev pub LeavesDelimited : Result (Unit {0}) DecodeError → List ℕ → List ℕ → Type 0
LeavesDelimited r bs left = LeavesUnlessFull r (past_no_delimited bs) left

abbrev pub LeavesPayload : Result (Unit {0}) DecodeError → WireType → List ℕ → List ℕ → Type 0
LeavesPayload r w bs left = LeavesUnlessFull r (past_no_payload w bs) left

-- Whole bytes are merged in one way only, and what is merged can't have been refused, memory aside.
pub record MergeIsPinned {X : Type 0} (meant : Option X) (charge before : BudgetLeft) : Type 0 where
  pub merged : (a b : X) (x y : BudgetLeft) → IsMerged meant charge before done a x → IsMerged meant charge before done b y → (a ≡ b) × (x ≡ y)
  pub refused : (a b : X) (x y : BudgetLeft) (f : DecodeError) →
      IsMerged meant charge before done a x → IsMerged meant charge before (refusal f) b y → (f ≢ OutOfMemory) → ⊥
  -- from a default budget of their own
  pub alone : (a b : X) → IsMergedAlone meant charge done a → IsMergedAlone meant charge done b → a ≡ b
  pub not_alone : (a b : X) (f : DecodeError) → IsMergedAlone meant charge done a → IsMergedAlone meant charge (refusal f) b → (f ≢ OutOfMemory) → ⊥

-- The same of the field whose tag t was read, and of what follows it.
pub record FieldMergeIsPinned {X : Type 0} (merged : ℕ → X → List ℕ → Option X) (cost : ℕ → List ℕ → BudgetLeft) (d n : ℕ) (w : WireType) (t : List ℕ) (tag : IsTag t n w) (old : X) (bs : List ℕ) (before : BudgetLeft) : Type 0 where
  pub merges : (a b : X) (x y : BudgetLeft) (r s : List ℕ) →
      IsFieldMerged merged cost d old n w bs before done a x r → IsFieldMerged merged cost d old n w bs before done b y s → (a ≡ b) × (x ≡ y) × (r ≡ s)
  pub refuses : (a b : X) (x y : BudgetLeft) (r s : List ℕ) (f : DecodeError) →
      IsFieldMerged merged cost d old n w bs before done a x r → IsFieldMerged merged cost d old n w bs before (refusal f) b y s → (f ≢ OutOfMemory) → ⊥

-- The same of a message inside a field; and refused bytes leave one rest, memory aside.
pub record InsideIsPinned {X : Type 0} (merged : ℕ → X → List ℕ → Option X) (cost : ℕ → List ℕ → BudgetLeft) (d : ℕ) (old : X) (bs : List ℕ) (before : BudgetLeft) : Type 0 where
  pub merges : (a b : X) (x y : BudgetLeft) (r s : List ℕ) →
      IsInside merged cost d old bs before a x r → IsInside merged cost d old bs before b y s → (a ≡ b) × (x ≡ y) × (r ≡ s)
  pub refuses : (a : X) (x : BudgetLeft) (r : List ℕ) (e : DecodeError) →
      IsInside merged cost d old bs before a x r → MessageFault merged cost d old bs before e → ⊥
  pub left : (e : DecodeError) (r s : List ℕ) → e ≢ OutOfMemory → LeavesDelimited (refusal e) bs r → LeavesDelimited (refusal e) bs s → r ≡ s

-- A value is sized in one way only; its encoding, where it is small, is written in one way only.
pub record PassesArePinned (encoding slots : List ℕ) (old : Cache) : Type 0 where
  pub sized : (m n : ℕ) (a b : Cache) →
      (let r : Result ℕ EncodeError = Ok m in IsSized encoding slots old r a) → (let r : Result ℕ EncodeError = Ok n in IsSized encoding slots old r b) → (m ≡ n) × (a ≡ b)
  pub written : (before x y : List ℕ) (a b : Cache) → IsSmall encoding →
      (let r : Result (Unit {0}) EncodeError = done in IsWritten encoding slots old before r a x) →
      (let r : Result (Unit {0}) EncodeError = done in IsWritten encoding slots old before r b y) → (x ≡ y) × (a ≡ b)
  -- where memory ran out before the value was sized, the old slots come first, and none was consumed
  pub refused : (e : EncodeError) (a : Cache) → (let r : Result ℕ EncodeError = Err e in IsSized encoding slots old r a) → (take (length old.slots) a.slots ≡ old.slots) × (a.next ≡ old.next)
  -- where memory ran out, no slot but the value's own was consumed, and none was changed
  pub consumed : (a : Cache) → Consumes slots old a → (a.slots ≡ old.slots) × (old.next ≤ a.next) × (a.next ≤ old.next + length slots)

-- A field is read as one record, and of the unknown fields left one number is spent; what is read has no fault, and
-- what has a fault one.
pub record FieldIsPinned (d s n : ℕ) (w : WireType) (bs : List ℕ) : Type 0 where
  pub taken : (x y : FieldData) (k m : ℕ) (r q : List ℕ) → TakesField d s n w bs x k r → TakesField d s n w bs y m q → (x ≡ y) × (k ≡ m) × (r ≡ q)
  pub refused : (x : FieldData) (k : ℕ) (r : List ℕ) (e : DecodeError) → TakesField d s n w bs x k r → FieldFault d s n w bs e → ⊥
  pub fault : (e f : DecodeError) → FieldFault d s n w bs e → FieldFault d s n w bs f → e ≡ f
  -- of a field that is no group, what is left of the bytes after a refusal, and how many unknown fields are left
  pub left : (e : DecodeError) (r q : List ℕ) → e ≢ OutOfMemory → LeavesPayload (refusal e) w bs r → LeavesPayload (refusal e) w bs q → r ≡ q
  pub counted : (k m : ℕ) → UnknownTaken s k → UnknownTaken s m → k ≡ m

-- The same of whole bytes.
pub record RecordsArePinned (d s : ℕ) (bs : List ℕ) : Type 0 where
  pub taken : (rs qs : List (ℕ × FieldData)) → Parse d bs (records_of rs) → Parse d bs (records_of qs) → rs ≡ qs
  pub refused : (rs : List (ℕ × FieldData)) (e : DecodeError) → Parse d bs (records_of rs) → field_count (records_of rs) ≤ s → RecordsFault d s bs e → ⊥
  pub fault : (e f : DecodeError) → RecordsFault d s bs e → RecordsFault d s bs f → e ≡ f

-- What is spent of a budget leaves one budget, and only where it is there.
pub record BudgetIsPinned (left charge : BudgetLeft) : Type 0 where
  pub paid : (a b : BudgetLeft) → Pays left charge a → Pays left charge b → a ≡ b
  pub lacked : (a : BudgetLeft) → Pays left charge a → Lacks left charge → ⊥
  pub either : ((a : BudgetLeft) × Pays left charge a) ⊎ Lacks left charge

-- the encoding of a scalar's value is how its number is spelled
abbrev pub IsSpelled : {V : Type 0} → (V → ℕ) → (ℕ → List ℕ) → (V → List ℕ) → Type 0
IsSpelled number_of spelling encoding = (v : _) → spelling (number_of v) ≡ encoding v

-- numbers are spelled so, those below a limit alone
abbrev pub SpellsBelow : (ℕ → List ℕ) → (ℕ → Type 0) → (ℕ → List ℕ) → ℕ → Type 0
SpellsBelow spelling Spells wanted limit = (n : ℕ) → (spelling n ≡ wanted n) × (Spells n ↔ (n < limit))

-- the record of a number holds this, and it is found in one so
abbrev pub IsRecordedAs : (ℕ → FieldData) → (FieldData → Option ℕ) → (ℕ → FieldData) → (FieldData → Option ℕ) → Type 0
IsRecordedAs field_data found wanted found_so = ((n : ℕ) → field_data n ≡ wanted n) × (found ≡ found_so)
