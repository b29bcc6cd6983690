-- A message as a list of its members, as a value. Source: the protobuf encoding guide, "Message Structure".
use Rattle.std.specs.Prelude.{◌≡◌, ◌≢◌, ◌↔◌, ℕ, ◌==◌, ◌<◌, ◌≤◌, ◌&&◌, Bool, true, false, nat_lt, List, [], ◌∷◌, ◌++◌, Some, Result, Err, IsOk, MatchResult, OnErr, if◌then◌else◌}
use Rattle.std.specs.List.{AllByRecursion}
use Rattle.std.specs.Option.{option_map}
use Rattle.buffa_bytes.specs.declared.wire_type.WireType.{WireType}
use Rattle.buffa_bytes.specs.declared.wire_type.WireType.TheVariants.{StartGroup}
use Rattle.buffa_bytes.specs.declared.error.DecodeError.{DecodeError}
use Rattle.buffa_bytes.specs.declared.error.DecodeError.TheVariants.{OutOfMemory}
use Rattle.buffa_bytes.specs.declared.error.EncodeError.{EncodeError}
use Rattle.buffa_wire.specs.BudgetLeft.{BudgetLeft}
use Rattle.buffa_bytes.specs.Readings.{skip_at, FullOnlyIf, Gives}
use Rattle.buffa_bytes.specs.Unread.{past_no_payload}
use Rattle.buffa_bytes.specs.Number.{IsNumber}
use Rattle.buffa_wire.specs.Parse.{AreValid, IsPayload}
use Rattle.buffa_wire.specs.ReadableFacts.{Readable}
use Rattle.buffa_wire.specs.Cache.{Cache}
use Rattle.buffa_wire.specs.Message.{FieldRefused}
use Rattle.buffa_wire.specs.Passes.{IsNext, IsSized, IsWritten}
use Rattle.buffa_wire.specs.RecordReading.{field_at}
use Rattle.buffa_wire.specs.Records.{FieldData, height, records_of}
use Rattle.buffa_wire.specs.Encoding.{records_encoding, wire_of}
use Rattle.buffa_wire.specs.KeptField.{keep_charge}
use Rattle.buffa_fields.specs.UndeclaredFields.{AllNumbers, KeepTakesMemory, keep_takes}
use Rattle.buffa_fields.specs.Levels.{IsTakenWritten}
use Rattle.buffa_wire.specs.Takes.{Asks, IsTaken, Charge, ReadsBack, Stays, Taker}
use Rattle.buffa_fields.specs.TaggedField.{TaggedField}

-- What a member of a message is: what its value means, what a payload makes of it, where that may ask for memory, and
-- the records it is written as, under a number; with what it owes.
pub record Shape (P X : Type 0) : Type 1 where
  pub meaning : P → X
  pub blank : X
  -- whether a value has all that is read of a field: not where an undeclared number, or its entry, would be lost
  pub whole : Bool
  pub takes : Taker X
  -- what is told of the number and the wire type of a field: that the member takes it, or the fault
  pub checks : ℕ → WireType → Result (Unit {0}) DecodeError
  -- what is said of a refused field: of its fault under a budget, and of the value then
  pub refuses : FieldRefused X
  pub asks : Asks
  pub charge : Charge
  pub records : ℕ → X → List (ℕ × FieldData)
  -- the sizes of the messages in it, in the order in which its passes reserve and consume them
  pub slots : X → List ℕ
  pub levels : X → ℕ
  -- what has to be of the types of messages in it, for its levels to be exact
  pub Exact : Type 0
  pub normal : X → Type 0
  pub stays : Stays charge

-- The records are of the member's number, and all of them are taken only at a depth of the value's levels.
pub record IsExactMember {P X : Type 0} (s : Shape P X) : Type 0 where
  pub numbers : (k : ℕ) (v : X) → AllNumbers (λ n. n == k) (s.records k v)
  pub least : (k d : ℕ) (v : X) → s.normal v → AllByRecursion (IsTakenWritten s.takes d) (s.records k v) → s.levels v ≤ d

-- The records of a normal value are valid, and read back to the value; and its levels are exact, where those in it are.
pub record ReadsBackTo {P X : Type 0} (s : Shape P X) : Type 0 where
  pub valid : (k : ℕ) → IsNumber k → (v : X) → s.normal v → AreValid (records_of (s.records k v))
  pub back : (k : ℕ) → IsNumber k → (d : ℕ) (v : X) → Readable (records_of (s.records k v)) → s.normal v → s.levels v ≤ d → ReadsBack s.takes (λ n. n == k) d s.blank (records_encoding (s.records k v)) v
  pub exact : s.Exact → IsExactMember s

-- ---- what the calls of a message's members owe

-- A member takes the field whose tag was read as its payload makes the value, and pays what that costs; or refuses it.
unfoldable pub TakesAsSaid : {P X : Type 0} → Shape P X → TaggedField → P → Result (Unit {0}) DecodeError → P → BudgetLeft → List ℕ → Type 0
TakesAsSaid s f old r new after rest =
    IsTaken s.takes s.charge f.depth (s.meaning old) f.number f.wire_type f.bytes f.budget r (s.meaning new) after rest

-- memory runs out only where the member may ask for it
unfoldable pub AsksAsSaid : {P X : Type 0} → Shape P X → TaggedField → Result (Unit {0}) DecodeError → Type 0
AsksAsSaid s f r = FullOnlyIf r (s.asks f.depth f.number f.wire_type f.bytes)

-- the fault of its number or wire type is told: the value means what it did, and the field is unread
unfoldable pub TellsWrongType : {P X : Type 0} → Shape P X → TaggedField → P → Result (Unit {0}) DecodeError → P → List ℕ → Type 0
TellsWrongType s f old r new rest =
    (e : DecodeError) → s.checks f.number f.wire_type ≡ Err e → (r ≡ Err e) × (s.meaning old ≡ s.meaning new) × (f.bytes ≡ rest)

-- a field is refused as the member says
unfoldable pub RefusesAsSaid : {P X : Type 0} → Shape P X → TaggedField → P → Result (Unit {0}) DecodeError → P → Type 0
RefusesAsSaid s f old r new =
    (e : DecodeError) → r ≡ Err e → s.refuses f.depth (s.meaning old) f.number f.wire_type f.bytes f.budget e (s.meaning new)

-- all four: a member took the field whose tag was read, or refused it
abbrev pub Took : {P X : Type 0} → Shape P X → ℕ → P → ℕ → WireType → List ℕ → BudgetLeft → Result (Unit {0}) DecodeError → P → BudgetLeft → List ℕ → Type 0
Took s d old n w bs before r new after rest =
    let f : TaggedField = record { depth = d; number = n; wire_type = w; bytes = bs; budget = before } in
    TakesAsSaid s f old r new after rest × AsksAsSaid s f r × TellsWrongType s f old r new rest × RefusesAsSaid s f old r new

-- a field is refused by the fault of its bytes, or as one too many; unread is what stands where no payload does, and all
-- of it where none may be kept, or no level is left for a group
abbrev pub FieldIsRefused : ℕ → ℕ → ℕ → WireType → List ℕ → DecodeError → List ℕ → Type 0
FieldIsRefused d s n w bs e rest =
    (field_at d s n w bs ≡ Err e) × (s ≡ 0 → rest ≡ bs) × (w ≡ StartGroup → d ≡ 0 → rest ≡ bs) × (w ≢ StartGroup → 0 < s → rest ≡ past_no_payload w bs)

-- a field that isn't declared is kept; one that is refused changes and spends nothing
unfoldable pub IsFieldKept : ℕ → List (ℕ × FieldData) → ℕ → WireType → List ℕ → BudgetLeft → Result (Unit {0}) DecodeError → List (ℕ × FieldData) → BudgetLeft → List ℕ → Type 0
IsFieldKept d old n w bs before r new after rest =
    IsTaken keep_takes keep_charge d old n w bs before r new after rest × MatchResult r (λ _. Unit {0}) (λ _. old ≡ new)
    × FullOnlyIf r (KeepTakesMemory before.unknown d n w bs) × MatchResult r (λ _. Unit {0}) (λ _. before ≡ after)
    × ((e : DecodeError) → r ≡ Err e → e ≢ OutOfMemory → FieldIsRefused d before.unknown n w bs e rest)

abbrev pub passes : Taker (Unit {0})
passes d v n w p = Some v

-- or it is passed over, or refused by its fault, and then unread as far as no payload is there; nothing is spent
unfoldable pub Passed : ℕ → ℕ → WireType → List ℕ → BudgetLeft → Result (Unit {0}) DecodeError → BudgetLeft → List ℕ → Type 0
Passed d n w bs before r after rest =
    Gives (λ _. rest) r (skip_at d n w bs) × (before ≡ after)
    × (w ≡ StartGroup → d ≡ 0 → rest ≡ bs) × (w ≢ StartGroup → OnErr r (rest ≡ past_no_payload w bs))

-- What a visitor has seen: records, and sizes of messages in them, since it stood behind these bytes of a sink and
-- before this cache; both are lent, and known by names.
pub record Seen : Type 0 where
  pub sink : ℕ
  pub before : List ℕ
  pub cache : ℕ
  pub first : Cache
  pub records : List (ℕ × FieldData)
  pub slots : List ℕ

unfoldable pub more : List (ℕ × FieldData) → List ℕ → Seen → Seen
more rs ss z = record { sink = z.sink; before = z.before; cache = z.cache; first = z.first; records = z.records ++ rs; slots = z.slots ++ ss }

-- a member was visited
abbrev pub visited : {P X : Type 0} → Shape P X → ℕ → P → Seen → Seen
visited s k p z = more (s.records k (s.meaning p)) (s.slots (s.meaning p)) z

-- ---- what visitors know

-- what was seen was sized, into the cache; memory runs out only where a message has a slot in it
unfoldable pub IsCounted : ℕ → Result ℕ EncodeError → Cache → Seen → Type 0
IsCounted cache r now z = (z.cache ≡ cache) × IsSized (records_encoding z.records) z.slots z.first r now × (z.slots ≡ [] → IsOk r)

-- it was written, behind what stood in the sink, out of the cache
unfoldable pub IsPut : ℕ → ℕ → List ℕ → Cache → Result (Unit {0}) EncodeError → Seen → Type 0
IsPut sink cache written now r z = (z.sink ≡ sink) × (z.cache ≡ cache) × IsWritten (records_encoding z.records) z.slots z.first z.before r now written

-- these sizes are next, unless memory ran out
unfoldable pub Follow : List ℕ → Result (Unit {0}) EncodeError → Cache → Type 0
Follow ss r now = MatchResult r (λ _. IsNext ss now) (λ _. Unit {0})

-- these sizes come next, if there are any
abbrev pub Comes : {V : Type 0} → (List ℕ → V → Type 0) → List ℕ → V → Type 0
Comes waits [] v = Unit {0}
Comes waits (s ∷ ss) v = waits (s ∷ ss) v

-- ---- lists of members

-- a field, and the others
abbrev pub both_take : {A B : Type 0} → ℕ → Taker A → Taker B → Taker (A × B)
both_take k f g d v n w p =
    if n == k then option_map (λ x. (x, v.1)) (f d v.0 n w p) else option_map (λ y. (v.0, y)) (g d v.1 n w p)

abbrev pub both_charge : ℕ → Charge → Charge → Charge
both_charge k f g d n w bs = if n == k then f d n w bs else g d n w bs

-- whether a field may have this number
abbrev pub is_number : ℕ → Bool
is_number n = nat_lt 0 n && nat_lt n 536870912

-- one of two, by a test
abbrev pub Choice : Bool → Type 0 → Type 0 → Type 0
Choice true a b = a
Choice false a b = b

-- the payload of this record puts it behind those that are kept
abbrev pub IsPutBehind : {X : Type 0} → Taker X → (X → List (ℕ × FieldData) → X) → ℕ → ℕ × FieldData → Type 0
IsPutBehind {X} takes adds d y = (v : X) (p : List ℕ) → IsPayload d y.0 y.1 p → takes d v y.0 (wire_of y.1) p ≡ Some (adds v (y ∷ []))

-- What a message is, by its members: M is its type, X what it means. Its words stand first, and then what holds of them.
pub record Schema (M X : Type 0) : Type 1 where
  pub meaning : M → X
  pub blank : X
  pub takes : Taker X
  -- with so many unknown fields left, where a field may ask for memory
  pub asks : ℕ → Asks
  pub charge : Charge
  pub records : X → List (ℕ × FieldData)
  pub slots : X → List ℕ
  pub levels : X → ℕ
  pub normal : X → Type 0
  -- the numbers that are declared; and whether each may be a field's, no two are one, and records that a member puts aside are kept
  pub declares : ℕ → Bool
  pub sound : Bool
  -- whether fields that aren't declared are kept; and the records that are
  pub keeps : Bool
  pub kept : X → List (ℕ × FieldData)
  -- a value with some behind these, and one with none
  pub adds : X → List (ℕ × FieldData) → X
  pub bare : X → X
  -- the members' own records, which stand before those that are kept
  pub own : X → List (ℕ × FieldData)
  -- two messages have the same members, or all but what is kept
  pub Same : M → M → Type 0
  pub SameBut : M → M → Type 0
  -- the member of the number takes the field, and the others stay
  pub Taken : ℕ → M → ℕ → WireType → List ℕ → BudgetLeft → Result (Unit {0}) DecodeError → M → BudgetLeft → List ℕ → Type 0
  -- two values are the same, but for what the member of the number means
  pub DiffersOnlyAt : ℕ → X → X → Type 0
  -- all members were visited, one after the other
  pub seen : M → Seen → Seen
  -- what the members owe, for reading back and for exact levels
  pub Owes : Type 0
  pub Exact : Type 0
  -- ---- what holds of these
  pub stays : Stays charge
  pub same_is : (a b : M) → Same a b → meaning a ≡ meaning b
  pub same_kept : (a b : M) → Same a b ↔ (SameBut a b × (kept (meaning b) ≡ kept (meaning a)))
  pub same_but : (a b : M) (rs : List (ℕ × FieldData)) → SameBut a b → kept (meaning b) ≡ kept (meaning a) ++ rs → meaning b ≡ adds (meaning a) rs
  -- of a field that is taken
  pub taken_is : (d : ℕ) (old : M) (n : ℕ) (w : WireType) (bs : List ℕ) (before : BudgetLeft) (r : Result (Unit {0}) DecodeError) (new : M) (after : BudgetLeft) (rest : List ℕ) →
      Taken d old n w bs before r new after rest → IsTaken takes charge d (meaning old) n w bs before r (meaning new) after rest
  pub asks_is : (d : ℕ) (old : M) (n : ℕ) (w : WireType) (bs : List ℕ) (before : BudgetLeft) (r : Result (Unit {0}) DecodeError) (new : M) (after : BudgetLeft) (rest : List ℕ) →
      Taken d old n w bs before r new after rest → FullOnlyIf r (asks before.unknown d n w bs)
  pub differs_only : (d : ℕ) (old : M) (n : ℕ) (w : WireType) (bs : List ℕ) (before : BudgetLeft) (e : DecodeError) (new : M) (after : BudgetLeft) (rest : List ℕ) →
      Taken d old n w bs before (let r : Result (Unit {0}) DecodeError = Err e in r) new after rest → DiffersOnlyAt n (meaning old) (meaning new)
  pub seen_is : (m : M) (z : Seen) → seen m z ≡ more (records (meaning m)) (slots (meaning m)) z
  -- records are put behind others, and a value is what it is with none kept, and its own behind that
  pub adds_none : (v : X) → adds v [] ≡ v
  pub adds_twice : (v : X) (a b : List (ℕ × FieldData)) → adds (adds v a) b ≡ adds v (a ++ b)
  pub adds_kept : keeps ≡ true → (v : X) (rs : List (ℕ × FieldData)) → kept (adds v rs) ≡ kept v ++ rs
  pub adds_own : (v : X) (rs : List (ℕ × FieldData)) → own (adds v rs) ≡ own v
  pub whole : (v : X) → adds (bare v) (kept v) ≡ v
  pub in_two : (v : X) → records v ≡ own v ++ kept v
  pub kept_low : (v : X) → height (kept v) ≤ levels v
  -- where the records of each member are valid and read back, those of all do; and each that is kept is put behind the others again
  pub valid : Owes → sound ≡ true → (v : X) → normal v → AreValid (records_of (records v))
  pub back : Owes → sound ≡ true → (d : ℕ) (v : X) → Readable (records_of (own v)) → normal v → levels v ≤ d → ReadsBack takes declares d blank (records_encoding (own v)) (bare v)
  pub again : Owes → sound ≡ true → (d : ℕ) (v : X) → normal v → levels v ≤ d → AllByRecursion (IsPutBehind takes adds d) (kept v)
  -- where the levels of each member are exact, those of all are: their own records are of their numbers; and these, and what is kept
  -- under their numbers, are all taken only at a depth of the levels
  pub numbers : Owes → Exact → (v : X) → AllNumbers declares (own v)
  pub least : Owes → Exact → sound ≡ true → (d : ℕ) (v : X) → normal v → height (kept v) ≤ d → AllByRecursion (IsTakenWritten takes d) (own v) →
      AllByRecursion (λ y. declares y.0 ≡ true → IsTakenWritten takes d y) (kept v) → levels v ≤ d
