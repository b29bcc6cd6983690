-- What reading entries does to a map, to the records that are kept beside it, and to a budget: first a run of them, then the
-- entry that is refused, and at the end one entry alone.
--
-- Read `p × q` as "p and q", `p ⊎ q` as "p or q", `p → ⊥` as "not p", `(x : A) × p` as "there is an x such that p", and `(x : A) → p`
-- as "for every x, p". A record holds where all its parts do. `OnOk r P` says that P, if r is `Ok`; `IfErr r P` says `P f`, if r is
-- `Err f`; and `lookup_entry` finds the pair of a key. In a clause, `x.old` and `x.new` are what x holds at the call and at the
-- return, and `x.entry` and `x.exit` the same of a parameter that holds a `&mut`, or may be one. `B.unread` is the bytes that a
-- buffer has left, `B.beyond` those behind the limits of the buffers that were lent, and `C.pairs` what a map holds, in some order.
use Rattle.std.specs.Prelude.{ℕ, ◌+◌, List, [], ◌≡◌, ◌≢◌, ◌<◌, ◌≤◌, Bool, ◌++◌, ◌⊎◌, if◌then◌else◌, true}
use Rattle.buffa_wire.specs.Records.{FieldData}
use Rattle.buffa_bytes.specs.declared.error.DecodeError.{DecodeError}
use Rattle.buffa_bytes.specs.declared.error.DecodeError.TheVariants.{OutOfMemory, UnexpectedField, WireTypeMismatch}
use Rattle.buffa_bytes.specs.Unread.{past_no_tag, past_no_delimited, IsTailOf}
use Rattle.buffa_bytes.specs.declared.wire_type.WireType.{WireType}
use Rattle.buffa_bytes.specs.Field.{TagFault, TakesDelimited, TakesTag}
use Rattle.buffa_wire.specs.BudgetLeft.{BudgetLeft, Pays, UnknownsSpent, plus, unknown_fields}
use Rattle.buffa_bytes.specs.declared.wire_type.WireType.TheVariants.{LengthDelimited}
use Rattle.buffa_map.specs.Codec.{Reading}
use Rattle.buffa_map.specs.Entry.{EntryFault, EntryOf, IsEntry, EntryFieldsTakeMemory}
use Rattle.buffa_map.specs.EntryReading.{inner_charge, charge_of}
use Rattle.buffa_map.specs.Pairs.{InOrder, SamePairs}
use Rattle.buffa_map.specs.Run.{fold_entries, ArePaid, Run, EntryRecord, step, undeclared_record, undeclared_records}
use Rattle.buffa_map.specs.declared.map_entry.MapEntry.{MapEntry}

-- the pairs of the map, the records that are kept, and what is left of the budget
pub record State (K V : Type 0) : Type 0 where
  pub pairs : List (K × V)
  pub records : List (ℕ × FieldData)
  pub left : BudgetLeft

abbrev pub state : {K V : Type 0} → List (K × V) → List (ℕ × FieldData) → BudgetLeft → State K V
state pairs records left = record { pairs = pairs; records = records; left = left }

-- By which rules entries are read: how a key is read, and how a value; which keys are the same; whether the map keeps the
-- order in which keys came; how deep groups and messages may nest; the field's number; how many units of element memory
-- an entry costs; and whether one with an undeclared value is kept, as a record, or dropped.
pub record Rules (K V : Type 0) : Type 0 where
  pub key : Reading K
  pub val : Reading V
  pub same : K → K → Bool
  pub keeps_order : Bool
  pub depth : ℕ
  pub number : ℕ
  pub cost : ℕ
  pub keeps_undeclared : Bool

-- The rules of two codecs and a storage: how a key is read, and what it costs (`reading` and `COST` of its codec); how a value is
-- read, and what it costs; which keys are the same, and whether their order is kept (`equal` and `keeps_order` of the storage); the
-- depth; the number; and whether what is undeclared is kept.
abbrev pub rules : {K V : Type 0} → Reading K × ℕ → Reading V × ℕ → (K → K → Bool) × Bool → ℕ → ℕ → Bool → Rules K V
rules key val storage depth number keeps = record {
  key = key.0;
  val = val.0;
  same = storage.0;
  keeps_order = storage.1;
  depth = depth;
  number = number;
  cost = key.1 + val.1;
  keeps_undeclared = keeps;
}

-- the records that are kept of a run's entries, in order
abbrev pub kept_of_run : {K V : Type 0} → Rules K V → List (EntryRecord K V) → List (ℕ × FieldData)
kept_of_run r entries = if r.keeps_undeclared then undeclared_records r.number entries else []

-- how many of the unknown fields left an undeclared entry costs: one, where it is kept
abbrev pub unknown_cost : {K V : Type 0} → Rules K V → ℕ
unknown_cost r = if r.keeps_undeclared then 1 else 0

-- The bytes are the records of some entries, and were read.
pub record ReadsRun {K V : Type 0} (r : Rules K V) (old : State K V) (bytes : List ℕ) (new : State K V) (rest : List ℕ) : Type 0 where
  pub entries : List (EntryRecord K V)
  -- the bytes are a run of these entries
  pub run : Run r.key r.val r.depth r.number bytes entries
  -- each key finds in the new pairs what it finds in the old ones with each declared entry put into them
  pub folded : SamePairs r.same (fold_entries r.same old.pairs entries) new.pairs
  -- where the map keeps the order in which keys came, the new pairs are that very list
  pub order : InOrder r.keeps_order (fold_entries r.same old.pairs entries) new.pairs
  -- the undeclared entries follow the old records, where they are kept
  pub keeps : new.records ≡ old.records ++ kept_of_run r entries
  -- exactly what the entries cost is spent
  pub paid : ArePaid r.key r.val r.depth r.cost (unknown_cost r) old.left entries new.left
  -- nothing is unread
  pub whole : rest ≡ []

-- Memory may run out while an entry is merged only where a length and so many bytes, the entry, are there, its units are left, and one
-- of these holds besides. The entry has bytes, undeclared entries are kept, and the value's codec may give an undeclared value: then it
-- may be copied before it is read. A field of it takes memory. It is whole, and is put into the map. It is whole, and is kept, for which
-- an unknown field is left beyond what its messages need.
abbrev pub EntryTakesMemory : {K V : Type 0} → Rules K V → BudgetLeft → List ℕ → Type 0
EntryTakesMemory {K} {V} r left bs =
    (e : List ℕ) × (rest : List ℕ) × TakesDelimited bs e rest × (r.cost ≤ left.memory)
    × (((r.keeps_undeclared ≡ true) × (r.val.undeclared ≡ true) × (e ≢ []))
    ⊎ (EntryFieldsTakeMemory r.key r.val r.depth e
    ⊎ ((s : MapEntry K V) × IsEntry r.key r.val r.depth e s
    × ((s.known ≡ true) ⊎ ((r.keeps_undeclared ≡ true) × ((charge_of r.key r.val r.depth r.cost e).unknown < left.unknown))))))

-- what a refused entry leaves unread
pub record LeavesEntry (bytes : List ℕ) (f : DecodeError) (unread : List ℕ) : Type 0 where
  -- always an end of the bytes
  pub tail : IsTailOf unread bytes
  -- what follows the entry, where it was there and memory didn't run out
  pub past : f ≢ OutOfMemory → (e rest : List ℕ) → TakesDelimited bytes e rest → unread ≡ rest
  -- where the entry was there, no less than what follows it
  pub within : (e rest : List ℕ) → TakesDelimited bytes e rest → IsTailOf rest unread
  -- where no length and so many bytes were there, what follows the length, or what follows the first ten bytes where no length was
  pub nothing_there : ((e rest : List ℕ) → TakesDelimited bytes e rest → ⊥) → unread ≡ past_no_delimited bytes

-- Of so much element memory nothing was spent; or the cost of an entry, and of what the messages in it need (`inner`) at most all.
abbrev pub SpendsUnits : ℕ → ℕ → ℕ → ℕ → Type 0
SpendsUnits cost inner left left_after = (left_after ≡ left) ⊎ ((left_after + cost ≤ left) × (left ≤ left_after + (cost + inner)))

-- What a refused entry spends of a budget. The messages in it need `inner_charge`.
pub record SpendsOnEntry {K V : Type 0} (r : Rules K V) (left : BudgetLeft) (bytes : List ℕ) (f : DecodeError) (left_after : BudgetLeft) : Type 0 where
  -- of element memory nothing, or its units and at most what the messages in it need
  pub units : SpendsUnits r.cost (inner_charge r.key r.val r.depth bytes).memory left.memory left_after.memory
  -- the units, where it was there and they were left: they stay spent, whatever it was refused for
  pub charged : (e rest : List ℕ) → TakesDelimited bytes e rest → r.cost ≤ left.memory → left_after.memory + r.cost ≤ left.memory
  -- of the unknown fields at most what the messages in it need, and the one that keeps it
  pub fields : UnknownsSpent (unknown_cost r + (inner_charge r.key r.val r.depth bytes).unknown) left.unknown left_after.unknown
  -- and not that one, unless memory ran out
  pub not_kept : f ≢ OutOfMemory → UnknownsSpent (inner_charge r.key r.val r.depth bytes).unknown left.unknown left_after.unknown
  -- nothing, where no length and so many bytes were there
  pub unspent : ((e rest : List ℕ) → TakesDelimited bytes e rest → ⊥) → left_after ≡ left

-- The entry at the front was refused, and f is why. A fault inside a message may be told as any error but the two of a budget,
-- `UnknownFieldLimitExceeded` and `ElementMemoryLimitExceeded`. Where the entry's units are left, but not what its messages need besides,
-- f may be any error, but `OutOfMemory` only as `memory` says.
pub record RefusesEntry {K V : Type 0} (r : Rules K V) (old : State K V) (bytes : List ℕ) (new : State K V) (tail : List ℕ) (f : DecodeError) : Type 0 where
  -- it is the entry's first fault
  pub fault : f ≢ OutOfMemory → EntryFault r.key r.val r.depth r.cost (unknown_cost r) old.left bytes f
  -- or memory ran out, where merging the entry takes memory
  pub memory : f ≡ OutOfMemory → EntryTakesMemory r old.left bytes
  -- nothing is put, and nothing kept
  pub pairs : new.pairs ≡ old.pairs
  pub records : new.records ≡ old.records
  -- how far the bytes were read, and what was spent
  pub unread : LeavesEntry bytes f tail
  pub spent : SpendsOnEntry r old.left bytes f new.left

-- no tag of number n and of wire type LengthDelimited begins the bytes, and f is why; what is left follows the tag that is
-- there, or the varint that is no tag, or the first ten bytes where no varint is there
abbrev pub RefusesTag : ℕ → List ℕ → List ℕ → DecodeError → Type 0
RefusesTag n bytes tail f =
    (TagFault bytes f × (tail ≡ past_no_tag bytes))
    ⊎ ((g : ℕ) × (w : WireType) × TakesTag bytes g w tail
    × (((g ≢ n) × (f ≡ UnexpectedField g)) ⊎ ((g ≡ n) × (w ≢ LengthDelimited) × (f ≡ WireTypeMismatch n LengthDelimited w))))

-- The records in front were read, as a run of their own; what follows them was refused, and f is why. The tail is what is left
-- unread of the bytes.
pub record RefusesRun {K V : Type 0} (r : Rules K V) (old : State K V) (bytes : List ℕ) (new : State K V) (tail : List ℕ) (f : DecodeError) : Type 0 where
  pub front : List ℕ
  pub rest : List ℕ
  -- the bytes are two parts, of which the second has a byte at least
  pub split : bytes ≡ front ++ rest
  pub some : rest ≢ []
  -- the first was read, and `between` was the state behind it
  pub between : State K V
  pub read : ReadsRun r old front between []
  -- no tag of the field begins the second, and the state stands; or one does, and the entry behind it was refused
  pub refused : (RefusesTag r.number rest tail f × (new ≡ between))
      ⊎ ((mid : List ℕ) × TakesTag rest r.number LengthDelimited mid × RefusesEntry r between mid new tail f)

-- ---- one entry, and what takes an entry without its length

-- the record that is kept of an entry
abbrev pub kept_of_entry : {K V : Type 0} → Rules K V → List ℕ → MapEntry K V → List (ℕ × FieldData)
kept_of_entry r entry says = if r.keeps_undeclared then undeclared_record r.number entry says.known else []

-- The entry at the front of the bytes was read, and rest follows it: it is put, or, where it is undeclared, kept or dropped.
pub record MergesEntry {K V : Type 0} (r : Rules K V) (old : State K V) (bytes : List ℕ) (new : State K V) (rest : List ℕ) : Type 0 where
  pub says : MapEntry K V
  pub entry : List ℕ
  -- a length and the entry, which says so, begin the bytes
  pub read : EntryOf r.key r.val r.depth bytes entry says rest
  -- each key finds in the new pairs what it finds in the old ones with the entry, if it is declared, put into them
  pub put : SamePairs r.same (step r.same old.pairs says) new.pairs
  -- where the map keeps the order in which keys came, the new pairs are that very list
  pub order : InOrder r.keeps_order (step r.same old.pairs says) new.pairs
  -- an undeclared entry follows the old records, where it is kept
  pub keeps : new.records ≡ old.records ++ kept_of_entry r entry says
  -- exactly what the entry needs is spent, and an unknown field, where it is kept
  pub pays : Pays old.left (plus (charge_of r.key r.val r.depth r.cost entry) (unknown_fields (if says.known then 0 else unknown_cost r))) new.left

-- the entry e was merged, or refused, wherever a length and e begin the bytes
abbrev pub MergesWhole : {K V : Type 0} → Rules K V → State K V → List ℕ → State K V → Type 0
MergesWhole r old e new = (bytes rest : List ℕ) → TakesDelimited bytes e rest → MergesEntry r old bytes new rest

abbrev pub RefusesWhole : {K V : Type 0} → Rules K V → State K V → List ℕ → State K V → DecodeError → Type 0
RefusesWhole r old e new f = (bytes rest : List ℕ) → TakesDelimited bytes e rest → RefusesEntry r old bytes new rest f
