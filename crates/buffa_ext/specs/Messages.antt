-- Extensions that hold messages: the bytes of their records are merged in order.
-- Source: the protobuf encoding guide, "Last One Wins".
use Rattle.std.specs.Prelude.{◌≡◌, ◌≢◌, ◌↔◌, ℕ, ◌^◌, Bool, true, false, List, [], ◌∷◌, ◌++◌, ◌&&◌, nat_le, nat_lt, length, ◌⊎◌, Option, Some, None, Result, Ok, Err, MatchResult, if◌then◌else◌}
use Rattle.std.specs.Option.{option_and_then}
use Rattle.std.specs.List.{filter_map}
use Rattle.buffa_bytes.specs.declared.error.DecodeError.{DecodeError}
use Rattle.buffa_bytes.specs.declared.error.DecodeError.TheVariants.{OutOfMemory}
use Rattle.buffa_bytes.specs.declared.error.EncodeError.{EncodeError}
use Rattle.buffa_bytes.specs.declared.error.EncodeError.TheVariants.{GroupRefused, MessageTooLarge}
use Rattle.buffa_wire.specs.BudgetLeft.{BudgetLeft, Pays, PaysAtMost, defaults, nothing, plus}
use Rattle.buffa_wire.specs.Message.{BeginsField, FieldRefused, MergeFault, PartlyMerged}
use Rattle.buffa_wire.specs.declared.context.DecodeContext.{DecodeContext}
use Rattle.buffa_wire.specs.Records.{FieldData, group, records_of}
use Rattle.buffa_wire.specs.RecordReading.{list_at}
use Rattle.buffa_wire.specs.Encoding.{fields_encoding}

-- the message's encoding in a group: that of its records
abbrev pub group_held : FieldData → Option (List ℕ)
group_held (group rs) = Some (fields_encoding rs)
group_held _ = None

-- the encodings in records
abbrev pub encodings_in : (FieldData → Option (List ℕ)) → List FieldData → List (List ℕ)
encodings_in held ds = filter_map held ds

-- encodings merged in order
abbrev pub merged_all : {X : Type 0} → (X → List ℕ → Option X) → X → List (List ℕ) → Option X
merged_all merged old [] = Some old
merged_all merged old (b ∷ bs) = option_and_then (λ new. merged_all merged new bs) (merged old b)

-- what they cost together
abbrev pub cost_all : (List ℕ → BudgetLeft) → List (List ℕ) → BudgetLeft
cost_all cost [] = nothing
cost_all cost (b ∷ bs) = plus (cost b) (cost_all cost bs)

-- the need is left
abbrev pub is_left : BudgetLeft → BudgetLeft → Bool
is_left left charge = nat_le charge.unknown left.unknown && nat_le charge.memory left.memory

-- the message of encodings, where there is one at all and their cost is left
abbrev pub message_of : {X : Type 0} → (X → List ℕ → Option X) → (List ℕ → BudgetLeft) → X → BudgetLeft → List (List ℕ) → Option X
message_of merged cost blank left [] = None
message_of merged cost blank left (b ∷ bs) = if is_left left (cost_all cost (b ∷ bs)) then merged_all merged blank (b ∷ bs) else None

-- records are read as the message of the encodings in them
abbrev pub ReadsMessages : {X : Type 0} → (List FieldData → Option X → Type 0) → (X → List ℕ → Option X) → (List ℕ → BudgetLeft) → X → (FieldData → Option (List ℕ)) → Type 0
ReadsMessages {X = X} reads merged cost blank held = (ds : List FieldData) (o : Option X) → reads ds o ↔ (o ≡ message_of merged cost blank defaults (encodings_in held ds))

-- reading a message spends its cost, and otherwise no more than that
abbrev pub LeavesOf : {X : Type 0} → Option X → BudgetLeft → BudgetLeft → BudgetLeft → Type 0
LeavesOf (Some v) before charge after = Pays before charge after
LeavesOf None before charge after = PaysAtMost before charge after

-- what reading the message in one record may leave
abbrev pub LeavesOfRecord : {X : Type 0} → (X → List ℕ → Option X) → (List ℕ → BudgetLeft) → X → (FieldData → Option (List ℕ)) → BudgetLeft → FieldData → BudgetLeft → Type 0
LeavesOfRecord merged cost blank held b d left =
    let encodings = encodings_in held (d ∷ []) in
    LeavesOf (message_of merged cost blank b encodings) b (cost_all cost encodings) left

-- there is an encoding
abbrev pub some_there : List (List ℕ) → Bool
some_there [] = false
some_there (b ∷ bs) = true

-- merging encodings in order returns whether there was one; on a refusal at most their cost is spent, and the error says why
-- they aren't merged
abbrev pub IsAllMerged : {X : Type 0} → (X → List ℕ → Option X) → (List ℕ → BudgetLeft) → List (List ℕ) → X → BudgetLeft → Result Bool DecodeError → X → BudgetLeft → Type 0
IsAllMerged merged cost bs old before r new after =
    MatchResult r
    (λ some. (some ≡ some_there bs) × (merged_all merged old bs ≡ Some new) × Pays before (cost_all cost bs) after)
    (λ e. PaysAtMost before (cost_all cost bs) after × (e ≢ OutOfMemory → MergeFault (merged_all merged old bs) (cost_all cost bs) before e))

-- merging the encoding in one record in a context
abbrev pub MergesOne : {X : Type 0} → (ℕ → X → List ℕ → Option X) → (ℕ → List ℕ → BudgetLeft) → (FieldData → Option (List ℕ)) → DecodeContext → FieldData → X → Result Bool DecodeError → X → BudgetLeft → Type 0
MergesOne merged cost held ctx d old r new after = IsAllMerged (merged ctx.depth) (cost ctx.depth) (encodings_in held (d ∷ [])) old ctx.budget.now r new after

-- encodings are merged in order, and exactly what they cost is spent
abbrev pub AreMerged : {X : Type 0} → (X → List ℕ → Option X) → (List ℕ → BudgetLeft) → List (List ℕ) → X → BudgetLeft → X → BudgetLeft → Type 0
AreMerged merged cost bs old before new after = (merged_all merged old bs ≡ Some new) × Pays before (cost_all cost bs) after

-- the encoding in a record is refused: at most its own cost is spent, out of memory is returned only for a record that takes some,
-- and any other error says why the encoding isn't merged
abbrev pub IsEncodingRefused : {X : Type 0} → (X → List ℕ → Option X) → (List ℕ → BudgetLeft) → (FieldData → Option (List ℕ)) → (FieldData → Type 0) → FieldData → X → BudgetLeft → DecodeError → BudgetLeft → Type 0
IsEncodingRefused merged cost held asks d old before e after =
    (t : List ℕ) × (held d ≡ Some t) × PaysAtMost before (cost t) after × (e ≡ OutOfMemory → asks d)
    × (e ≢ OutOfMemory → MergeFault (merged old t) (cost t) before e)

-- What stands where the encoding in a record was refused, at a depth: its fields before the refused one are merged, and of that
-- one there stands what its type says; or memory ran out before any of it was merged.
abbrev pub PartlyMergedRecord : {X : Type 0} → (ℕ → X → List ℕ → Option X) → (ℕ → List ℕ → BudgetLeft) → FieldRefused X → (FieldData → Option (List ℕ)) → ℕ → FieldData → X → BudgetLeft → DecodeError → X → Type 0
PartlyMergedRecord merged cost Refused held n d old before e new =
    (t : List ℕ) × (held d ≡ Some t) × (PartlyMerged merged cost Refused n old t before e new ⊎ ((e ≡ OutOfMemory) × (new ≡ old)))

-- merging records stops at one: all before it are merged and paid for, the encoding in it is refused with what they
-- leave, and nothing is said of those behind it
abbrev pub StopsAt : {X : Type 0} → (X → List ℕ → Option X) → (List ℕ → BudgetLeft) → (FieldData → Option (List ℕ)) → (FieldData → Type 0) → List FieldData → X → BudgetLeft → DecodeError → BudgetLeft → Type 0
StopsAt {X = X} merged cost held asks ds old before e after =
    (front : List FieldData) × (d : FieldData) × (back : List FieldData) × (mid : X) × (left : BudgetLeft) × (ds ≡ front ++ d ∷ back)
    × AreMerged merged cost (encodings_in held front) old before mid left × IsEncodingRefused merged cost held asks d mid left e after

-- the same, and what the value is then: Standing says it of the record, of what those before it made and left, of the error and of the value
abbrev pub StopsPartlyMerged : {X : Type 0} → (X → List ℕ → Option X) → (List ℕ → BudgetLeft) → (FieldData → Option (List ℕ)) → (FieldData → Type 0) → (FieldData → X → BudgetLeft → DecodeError → X → Type 0) → List FieldData → X → BudgetLeft → DecodeError → X → BudgetLeft → Type 0
StopsPartlyMerged {X = X} merged cost held asks PartlyMergedBy ds old before e new after =
    (front : List FieldData) × (d : FieldData) × (back : List FieldData) × (mid : X) × (left : BudgetLeft) × (ds ≡ front ++ d ∷ back)
    × AreMerged merged cost (encodings_in held front) old before mid left × IsEncodingRefused merged cost held asks d mid left e after × PartlyMergedBy d mid left e new

-- merging the encodings in records returns whether there was one; or it stops at a record
abbrev pub MergesRecords : {X : Type 0} → (X → List ℕ → Option X) → (List ℕ → BudgetLeft) → (FieldData → Option (List ℕ)) → (FieldData → Type 0) → List FieldData → X → BudgetLeft → Result Bool DecodeError → X → BudgetLeft → Type 0
MergesRecords merged cost held asks ds old before r new after =
    MatchResult r
    (λ some. (some ≡ some_there (encodings_in held ds)) × AreMerged merged cost (encodings_in held ds) old before new after)
    (λ e. StopsAt merged cost held asks ds old before e after)

-- a record is such, and those before it are merged into a blank under a default budget
abbrev pub ReachesRecord : {X : Type 0} → (X → List ℕ → Option X) → (List ℕ → BudgetLeft) → X → (FieldData → Option (List ℕ)) → (FieldData → Type 0) → List FieldData → Type 0
ReachesRecord {X = X} merged cost blank held asks ds =
    (front : List FieldData) × (d : FieldData) × (back : List FieldData) × (mid : X) × (left : BudgetLeft) × (ds ≡ front ++ d ∷ back)
    × AreMerged merged cost (encodings_in held front) blank defaults mid left × asks d

-- what is answered after merging: the message where an encoding was there, and none after a fault
abbrev pub IsAnswer : {X : Type 0} → Result Bool DecodeError → X → Option X → Type 0
IsAnswer (Ok true) v o = o ≡ Some v
IsAnswer (Ok false) v o = o ≡ None
IsAnswer (Err e) v o = (o ≡ None) × (e ≢ OutOfMemory)

-- an encoding is there, and a field begins it
abbrev pub HasField : Option (List ℕ) → Type 0
HasField None = ⊥
HasField (Some t) = BeginsField t

abbrev pub BeginsFieldIn : (FieldData → Option (List ℕ)) → FieldData → Type 0
BeginsFieldIn held d = HasField (held d)

-- the records that bytes are, or none
abbrev pub or_none : Result (List (ℕ × FieldData)) DecodeError → List (ℕ × FieldData)
or_none (Ok rs) = rs
or_none (Err e) = []

-- the group of a message's encoding, and why there is none
abbrev pub group_of : List ℕ → FieldData
group_of encoding = group (records_of (or_none (list_at 100 1000000 encoding)))

abbrev pub why_refused : Result (List (ℕ × FieldData)) DecodeError → Option EncodeError
why_refused (Ok rs) = None
why_refused (Err e) = Some (GroupRefused e)

abbrev pub group_refusal : List ℕ → Option EncodeError
group_refusal encoding = why_refused (list_at 100 1000000 encoding)

-- why an encoding isn't written: it is too long, or else it can't be held
abbrev pub encoding_refusal : (List ℕ → Option EncodeError) → List ℕ → Option EncodeError
encoding_refusal refusal encoding = if nat_lt (length encoding) (2 ^ 31) then refusal encoding else Some MessageTooLarge
