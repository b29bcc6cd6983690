-- What stands of a member whose field was refused, and which fault was told. Source: the protobuf encoding guide, "Message Structure".
use Rattle.std.specs.Prelude.{◌≡◌, ◌≢◌, ◌<◌, ◌≤◌, ◌-◌, ◌⊎◌, ◌↔◌, ℕ, zero, suc, List, ◌++◌, Option, None, Result, Ok, Err, IsOk}
use Rattle.buffa_bytes.specs.declared.error.DecodeError.{DecodeError}
use Rattle.buffa_bytes.specs.declared.error.DecodeError.TheVariants.{ElementMemoryLimitExceeded, InvalidEndGroup, OutOfMemory, RecursionLimitExceeded}
use Rattle.buffa_bytes.specs.declared.tag.Tag.{Tag}
use Rattle.buffa_bytes.specs.declared.wire_type.WireType.{WireType}
use Rattle.buffa_bytes.specs.declared.wire_type.WireType.TheVariants.{EndGroup, LengthDelimited, StartGroup}
use Rattle.buffa_bytes.specs.Readings.{check_wire, delimited_at, tag_at}
use Rattle.buffa_wire.specs.BudgetLeft.{BudgetLeft}
use Rattle.buffa_wire.specs.Message.{BeginsField, FieldRefused, MessageFault}
use Rattle.buffa_map.specs.Codec.{Reading}
use Rattle.buffa_map.specs.Entry.{EntryFault}
use Rattle.buffa_map.specs.Pairs.{means}
use Rattle.buffa_fields.specs.Schema.{Shape}
use Rattle.buffa_fields.specs.Values.{RefusesAlone}
use Rattle.buffa_fields.specs.Lists.{element_at, elements_in}
use Rattle.buffa_fields.specs.Submessages.{MessageTakesMemory, or_blank}
use denote.Ref.{Bor}

-- What is said of a refused field: at a depth, of the value that stood, the number, the wire type, the bytes behind the tag, the
-- error, and the value that stands.
abbrev pub Refusal : Type 0 → Type 1
Refusal X = ℕ → X → ℕ → WireType → List ℕ → DecodeError → X → Type 0

-- the same under any budget
abbrev pub UnderAny : {X : Type 0} → Refusal X → FieldRefused X
UnderAny refuses d old n w bs left e new = refuses d old n w bs e new

-- a member type says this of refused fields under a budget; and this whatever the budget
abbrev pub RefusesUnder : {P X : Type 0} → Shape P X → FieldRefused X → Type 0
RefusesUnder {X = X} s refuses =
    (d : ℕ) (old : X) (n : ℕ) (w : WireType) (bs : List ℕ) (left : BudgetLeft) (e : DecodeError) (new : X) →
    s.refuses d old n w bs left e new ↔ refuses d old n w bs left e new

abbrev pub RefusesAs : {P X : Type 0} → Shape P X → Refusal X → Type 0
RefusesAs s refuses = RefusesUnder s (UnderAny refuses)

-- a call that took the field whose tag was read, where it was refused
abbrev pub RefusesTaggedField : {X T : Type 0} → Refusal X → Tag → ℕ → X → X → Bor (List ℕ) → Result T DecodeError → Type 0
RefusesTaggedField refuses tag d old new before r = (e : DecodeError) → r ≡ Err e → refuses d old tag.number tag.wire_type before.now e new

-- the same under the budget that was there
abbrev pub RefusesTaggedUnder : {X T : Type 0} → FieldRefused X → Tag → ℕ → BudgetLeft → X → X → Bor (List ℕ) → Result T DecodeError → Type 0
RefusesTaggedUnder refuses tag d left old new before r =
    (e : DecodeError) → r ≡ Err e → refuses d old tag.number tag.wire_type before.now left e new

-- A refused entry isn't put: the pairs are as they were. Unless memory ran out, the wire type is told, or the fault that the
-- entry has under this budget: of its length, of the units left, or the first of its fields; any, where a message in it lacks some.
abbrev pub RefusesPair : {K V : Type 0} → Reading K → Reading V → ℕ → FieldRefused (List (K × V))
RefusesPair key val cost d old n w bs left e new =
    (old ≡ new)
    × (e ≢ OutOfMemory → (check_wire n LengthDelimited w ≡ Err e) ⊎ ((w ≡ LengthDelimited) × EntryFault key val d cost 0 left bs e))

-- the same of a call, where keys and values mean so, and a pair costs so many units
abbrev pub RefusesPairIn : {A B T K V : Type 0} → Tag → ℕ → BudgetLeft → List (A × B) → List (A × B) → Bor (List ℕ) → Result T DecodeError → (A → K) → (B → V) → Reading K → Reading V → ℕ → Type 0
RefusesPairIn tag d left old new before r key_means val_means key val cost =
    (e : DecodeError) → r ≡ Err e → RefusesPair key val cost d (means key_means val_means old) tag.number tag.wire_type before.now left e (means key_means val_means new)

-- ---- lists
module _ {V : Type 0} (codec : Reading V) where
  -- the elements that a front of these bytes is stand behind those that stood, and the next one has the fault, unless memory ran out
  abbrev pub StopsAtElement : ℕ → List V → List ℕ → DecodeError → List V → Type 0
  StopsAtElement d old b e new =
      (front : List ℕ) × (rest : List ℕ) × (b ≡ front ++ rest) × (elements_in codec d old front ≡ Ok new)
      × (e ≢ OutOfMemory → element_at codec d new rest ≡ Err e)

  -- packed elements were refused: no length and so many bytes are there, and the list is as it was; or one of them was
  abbrev pub RefusesPacked : ℕ → List V → List ℕ → DecodeError → List V → Type 0
  RefusesPacked d old bs e new =
      ((delimited_at bs ≡ Err e) × (old ≡ new)) ⊎ ((b : List ℕ) × (after : List ℕ) × (delimited_at bs ≡ Ok (b, after)) × StopsAtElement d old b e new)

  -- A refused element isn't put, nor a field that is of no wire type of a list: the list is as it was, and the fault is told, unless
  -- memory ran out. Of packed elements those before the one that is refused are.
  abbrev pub RefusesElements : Refusal (List V)
  RefusesElements d old n w bs e new =
      ((w ≡ codec.wire) ⊎ (w ≢ LengthDelimited) → RefusesAlone codec (λ _. codec.blank) d old n w bs e new)
      × (w ≢ codec.wire → w ≡ LengthDelimited → RefusesPacked d old bs e new)

-- elements were read so far: those that a front of these bytes is stand behind those that stood, whatever follows them
pub record ElementsRead {V : Type 0} (codec : Reading V) (d : ℕ) (old : List V) (b rest : List ℕ) (now : List V) : Type 0 where
  pub front : List ℕ
  pub split : b ≡ front ++ rest
  pub reads : (y : List ℕ) → elements_in codec d old (front ++ y) ≡ elements_in codec d now y

-- ---- messages
-- a refused message isn't put behind the others: the list is as it was
abbrev pub RefusesNew : {X : Type 0} → Refusal (List X)
RefusesNew d old n w bs e new = old ≡ new

-- a value is as it was where the field is of another wire type, no level is left, or the bytes aren't so
abbrev pub LeavesUnless : {X : Type 0} → WireType → (List ℕ → Type 0) → Refusal X
LeavesUnless wire There d old n w bs e new = (w ≢ wire → old ≡ new) × (d ≡ 0 → old ≡ new) × ((There bs → ⊥) → old ≡ new)

-- unless memory ran out, the fault that is told of a field is that of its wire type, or one that the message in it has
abbrev pub TellsFaultOf : WireType → (DecodeError → Type 0) → ℕ → WireType → DecodeError → Type 0
TellsFaultOf wire IsFault n w e = e ≢ OutOfMemory → (check_wire n wire w ≡ Err e) ⊎ ((w ≡ wire) × IsFault e)

-- the same of a call
abbrev pub TellsTaggedFault : {T : Type 0} → WireType → (DecodeError → Type 0) → Tag → Result T DecodeError → Type 0
TellsTaggedFault wire IsFault tag r = (e : DecodeError) → r ≡ Err e → TellsFaultOf wire IsFault tag.number tag.wire_type e

-- A field that is refused neither puts a message there nor takes one away. One that was there is as it was in these cases, and in all
-- others what stands in it is its own affair; and the fault is told.
abbrev pub RefusesThere : {X : Type 0} → WireType → (List ℕ → Type 0) → (ℕ → Option X → ℕ → List ℕ → BudgetLeft → DecodeError → Type 0) → FieldRefused (Option X)
RefusesThere wire There Fault d old n w bs left e new =
    ((old ≡ None) ↔ (new ≡ None)) × LeavesUnless wire There d old n w bs e new × TellsFaultOf wire (Fault d old n bs left) n w e

-- a message: where no length and so many bytes are there; its faults are those of the message that stands, or of a default one
abbrev pub IsDelimited : List ℕ → Type 0
IsDelimited bs = IsOk (delimited_at bs)

abbrev pub RefusesMessage : {X : Type 0} → X → (ℕ → X → List ℕ → Option X) → (ℕ → List ℕ → BudgetLeft) → FieldRefused (Option X)
RefusesMessage blank merged cost =
    RefusesThere LengthDelimited IsDelimited (λ d old n bs left e. MessageFault merged cost d (or_blank blank old) bs left e)

-- a message is charged so many units before it is read: they aren't left; or they are, and the fault is the message's, under what is
-- left behind them
abbrev pub ChargedMessageFault : {X : Type 0} → ℕ → (ℕ → X → List ℕ → Option X) → (ℕ → List ℕ → BudgetLeft) → ℕ → X → List ℕ → BudgetLeft → DecodeError → Type 0
ChargedMessageFault each merged cost d old bs left e =
    ((left.memory < each) × (e ≡ ElementMemoryLimitExceeded))
    ⊎ ((each ≤ left.memory) × MessageFault merged cost d old bs (record { unknown = left.unknown; memory = left.memory - each }) e)

-- The same of a message in a box, which is charged so many units, also where one stands. To put one there takes memory; where one stands,
-- memory runs out only for the bytes of a message.
abbrev pub RefusesBoxed : {X : Type 0} → ℕ → X → (ℕ → X → List ℕ → Option X) → (ℕ → List ℕ → BudgetLeft) → FieldRefused (Option X)
RefusesBoxed each blank merged cost d old n w bs left e new =
    RefusesThere LengthDelimited IsDelimited (λ d old n bs left e. ChargedMessageFault each merged cost d (or_blank blank old) bs left e) d old n w bs left e new
    × (e ≡ OutOfMemory → old ≢ None → MessageTakesMemory d n w bs)

-- Why a group isn't merged, as far as it is told whatever its messages are: no level is left; no tag is there; or an end tag of another
-- group is. Where a field begins it, that may be any.
abbrev pub GroupFirstFault : ℕ → ℕ → List ℕ → DecodeError → Type 0
GroupFirstFault zero n bs e = e ≡ RecursionLimitExceeded
GroupFirstFault (suc d) n bs e =
    BeginsField bs ⊎ (tag_at bs ≡ Err e) ⊎ ((m : ℕ) × (rest : List ℕ) × (tag_at bs ≡ Ok (m, EndGroup, rest)) × (m ≢ n) × (e ≡ InvalidEndGroup m))

-- a group: where no field begins it
abbrev pub RefusesGroup : {X : Type 0} → FieldRefused (Option X)
RefusesGroup = RefusesThere StartGroup BeginsField (λ d old n bs left e. GroupFirstFault d n bs e)
