-- What the records of a number are read as.
use Rattle.std.specs.Prelude.{ℕ, ◌≡◌, ◌≢◌, ◌↔◌, ◌<◌, ◌≤◌, ◌+◌, ◌⊎◌, List, [], ◌∷◌, ◌++◌, length, map, take, MatchResult, Option, Some, None, Result, Ok, Err, if◌then◌else◌}
use Rattle.std.specs.Option.{option_or}
use Rattle.std.specs.Str.{is_utf8}
use Rattle.std.specs.List.{filter_map, last_or}
use Rattle.buffa_wire.specs.Records.{FieldData, Held, bytes}
use Rattle.buffa_wire.specs.BudgetLeft.{BudgetLeft, Covers, PaysAtMost, defaults, minus}
use Rattle.buffa_wire.specs.declared.context.DecodeContext.{DecodeContext}
use Rattle.buffa_bytes.specs.declared.error.EncodeError.{EncodeError}
use Rattle.buffa_bytes.specs.declared.error.EncodeError.TheVariants.{OutOfMemory}
use Rattle.buffa_wire.specs.Encoding.{encodings}

-- what the last record is read as that is read at all
abbrev pub last_read : {M : Type 0} → (FieldData → Option M) → List FieldData → Option M
last_read one ds = last_or None (filter_map one ds)

-- the bytes of a record
abbrev pub bytes_held : FieldData → Option (List ℕ)
bytes_held (bytes b) = Some b
bytes_held _ = None

-- the bytes of a record, where they are UTF-8
abbrev pub string_held : FieldData → Option (List ℕ)
string_held (bytes b) = if is_utf8 b then Some b else None
string_held _ = None

-- bytes are there, one at least
abbrev pub HasByte : Option (List ℕ) → Type 0
HasByte None = ⊥
HasByte (Some b) = b ≢ []

-- the packed values of a record
abbrev pub unpacked : {M : Type 0} → (List ℕ → List M) → FieldData → List M
unpacked packed (bytes b) = packed b
unpacked packed _ = []

-- the values of one record of a list: its own, or else its packed ones
abbrev pub elements : {M : Type 0} → (List ℕ → List M) → FieldData → Option M → List M
elements packed d None = unpacked packed d
elements packed d (Some v) = v ∷ []

-- what a record is read as in a context, and what that leaves of its budget
abbrev pub one_in : {M : Type 0} → (ℕ → BudgetLeft → FieldData → Option M) → DecodeContext → FieldData → Option M
one_in one ctx d = one ctx.depth ctx.budget.now d

abbrev pub LeavesIn : (ℕ → BudgetLeft → FieldData → BudgetLeft → Type 0) → DecodeContext → FieldData → BudgetLeft → Type 0
LeavesIn leaves ctx d left = leaves ctx.depth ctx.budget.now d left

-- of what is left in a context, at most that is spent
abbrev pub SpendsIn : (ℕ → FieldData → BudgetLeft) → DecodeContext → FieldData → BudgetLeft → Type 0
SpendsIn most ctx d left = PaysAtMost ctx.budget.now (most ctx.depth d) left

-- one of the records is such
abbrev pub Has : (FieldData → Type 0) → List FieldData → Type 0
Has P ds = (front : List FieldData) × (d : FieldData) × (back : List FieldData) × P d × (ds ≡ front ++ d ∷ back)

-- one of the records is such, and none behind it is read
abbrev pub HasLast : {M : Type 0} → (FieldData → Type 0) → (FieldData → Option M) → List FieldData → Type 0
HasLast P one ds = (front : List FieldData) × (d : FieldData) × (back : List FieldData) × P d × (filter_map one back ≡ []) × (ds ≡ front ++ d ∷ back)

-- a string or bytes value takes memory to be read where it has a byte, and it is the last that is read
abbrev pub LastHasByte : (FieldData → Option (List ℕ)) → List FieldData → Type 0
LastHasByte held ds = HasLast (λ d. HasByte (held d)) held ds

-- a record of a list takes memory: its reading does, or it has a value, which is stored
abbrev pub AsksInList : {M : Type 0} → (FieldData → Type 0) → (BudgetLeft → FieldData → Option M) → (List ℕ → List M) → FieldData → Type 0
AsksInList asks one packed d = asks d ⊎ ((b : BudgetLeft) × (elements packed d (one b d) ≢ []))

-- new is old with more behind it, or with a beginning of more that isn't all of it
abbrev pub Adds : {A : Type 0} → List A → List A → List A → Type 0
Adds old more new = new ≡ old ++ more

abbrev pub AddsSome : {A : Type 0} → List A → List A → List A → Type 0
AddsSome old more new = (k : ℕ) × (k < length more) × (new ≡ old ++ take k more)

-- the values that mean so stand behind the others, or a beginning of them that isn't all
abbrev pub AddsValues : {V M : Type 0} → (V → M) → List V → List M → List V → Type 0
AddsValues meaning old more new = map meaning new ≡ map meaning old ++ more

abbrev pub AddsSomeValues : {V M : Type 0} → (V → M) → List V → List M → List V → Type 0
AddsSomeValues meaning old more new = (k : ℕ) × (k < length more) × (map meaning new ≡ map meaning old ++ take k more)

-- no capacity is lost: the room for each record is still there, or holds one
abbrev pub KeepsCapacity : Held → Held → Type 0
KeepsCapacity old new = length old.records + old.spare ≤ length new.records + new.spare

-- what fits in a vector's room is never refused, and takes no more of it than there are values
abbrev pub UsesVecRoom : {T E A : Type 0} → Result T E → ℕ → List A → ℕ → Type 0
UsesVecRoom r room more left = MatchResult r (λ _. room ≤ left + length more) (λ _. room < length more)

-- the values of a record stand behind the others
abbrev pub AddsRecord : {V M : Type 0} → (V → M) → (List ℕ → List M) → (FieldData → Option M) → List V → FieldData → List V → Type 0
AddsRecord meaning packed one old d new = AddsValues meaning old (elements packed d (one d)) new

-- the records, read one after the other from what is left, hold these values
abbrev pub ReadsAll : {M : Type 0} → (BudgetLeft → FieldData → Option M) → (BudgetLeft → FieldData → BudgetLeft → Type 0) → (List ℕ → List M) → BudgetLeft → List FieldData → List M → BudgetLeft → Type 0
ReadsAll one leaves packed b [] vs left = (vs ≡ []) × (left ≡ b)
ReadsAll {M = M} one leaves packed b (d ∷ ds) vs left =
    (mid : BudgetLeft) × (rest : List M) × leaves b d mid × ReadsAll one leaves packed mid ds rest left × (vs ≡ elements packed d (one b d) ++ rest)

-- the same from a default budget
abbrev pub ReadsList : {M : Type 0} → (BudgetLeft → FieldData → Option M) → (BudgetLeft → FieldData → BudgetLeft → Type 0) → (List ℕ → List M) → List FieldData → List M → Type 0
ReadsList one leaves packed ds vs = (left : BudgetLeft) × ReadsAll one leaves packed defaults ds vs left

-- of one value: records and then more records are read as the later ones are, or where those are read as nothing, as
-- the earlier ones
abbrev pub LaterReadingsWin : {M : Type 0} → (List FieldData → Option M → Type 0) → Type 0
LaterReadingsWin {M = M} reads =
    (s r : List FieldData) (o : Option M) → reads (s ++ r) o ↔ ((p : Option M) × (q : Option M) × reads s p × reads r q × (o ≡ option_or q p))

-- the values of joined records are the joined values
abbrev pub ReadingsJoin : {M : Type 0} → (List FieldData → List M → Type 0) → Type 0
ReadingsJoin {M = M} reads =
    (s r : List FieldData) (out : List M) → reads (s ++ r) out ↔ ((vs : List M) × (ws : List M) × reads s vs × reads r ws × (out ≡ vs ++ ws))

-- records are read alike
abbrev pub ReadAlike : {A : Type 0} → (List FieldData → A → Type 0) → (List FieldData → A → Type 0) → Type 0
ReadAlike {A = A} reads also = (s : List FieldData) (out : A) → reads s out ↔ also s out

-- the records, one after the other, cost no more than what is left
abbrev pub CoversAll : (FieldData → BudgetLeft) → BudgetLeft → List FieldData → Type 0
CoversAll cost b [] = Unit {0}
CoversAll cost b (d ∷ ds) = Covers b (cost d) × CoversAll cost (minus b (cost d)) ds

-- one record of packed bytes, or none for no values
abbrev pub packed_record : {V : Type 0} → (V → List ℕ) → List V → List FieldData
packed_record encoding [] = []
packed_record encoding (v ∷ vs) = bytes (encodings encoding (v ∷ vs)) ∷ []

-- why the first of the values is refused that is refused at all
abbrev pub first_refusal : {V : Type 0} → (V → Option EncodeError) → List V → Option EncodeError
first_refusal refusal [] = None
first_refusal refusal (v ∷ vs) = elim (refusal v) [ Some e ↦ Some e | None ↦ first_refusal refusal vs ]

-- an error is out of memory or the stated refusal; a success has none
abbrev pub Refuses : {T : Type 0} → Result T EncodeError → Option EncodeError → Type 0
Refuses (Ok x) refusal = refusal ≡ None
Refuses (Err e) refusal = (e ≡ OutOfMemory) ⊎ (refusal ≡ Some e)
