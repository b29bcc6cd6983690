-- What the contracts of entries and runs leave open: nothing, but for what is said here.
use Rattle.std.specs.Prelude.{◌≡◌, ◌≢◌, ℕ, Bool, false, true, List, Ok}
use Rattle.buffa_bytes.specs.declared.error.DecodeError.{DecodeError}
use Rattle.buffa_bytes.specs.declared.error.DecodeError.TheVariants.{OutOfMemory}
use Rattle.buffa_wire.specs.BudgetLeft.{BudgetLeft}
use Rattle.buffa_map.specs.Codec.{Reading, RefusesValue, Spends, value_at, value_charge}
use Rattle.buffa_map_laws.specs.Laws.{ArePlain}
use Rattle.buffa_map.specs.Merge.{MergesEntry, ReadsRun, RefusesEntry, Rules, State, RefusesRun}
use Rattle.buffa_map.specs.Pairs.{SamePairs}

-- two states are one: the maps find the same pairs
pub record SameState {K V : Type 0} (r : Rules K V) (a b : State K V) : Type 0 where
  pub pairs : SamePairs r.same a.pairs b.pairs
  pub records : a.records ≡ b.records
  pub left : a.left ≡ b.left
  -- where the order of arrival is kept, they are one list
  pub order : r.keeps_order ≡ true → a.pairs ≡ b.pairs

module _ {K V : Type 0} (r : Rules K V) where
  -- the rules' payloads are no messages
  abbrev ArePlainRules : Type 0
  ArePlainRules = ArePlain r.key r.val

  -- An entry is merged in one way only, and what is merged can't have been refused, memory aside. Two faults of one entry
  -- leave one rest; where no payload is a
  -- message, two faults are one, and leave one state.
  pub record EntryIsPinned : Type 0 where
    pub merged : (old : State K V) (bs : List ℕ) (a b : State K V) (x y : List ℕ) →
        MergesEntry r old bs a x → MergesEntry r old bs b y → SameState r a b × (x ≡ y)
    pub refused : (old : State K V) (bs : List ℕ) (a b : State K V) (x y : List ℕ) (f : DecodeError) →
        MergesEntry r old bs a x → RefusesEntry r old bs b y f → (f ≢ OutOfMemory) → ⊥
    pub leaves : (old : State K V) (bs : List ℕ) (a b : State K V) (x y : List ℕ) (f g : DecodeError) →
        RefusesEntry r old bs a x f → RefusesEntry r old bs b y g → (f ≢ OutOfMemory) → (g ≢ OutOfMemory) → x ≡ y
    pub faults : ArePlainRules → (old : State K V) (bs : List ℕ) (a b : State K V) (x y : List ℕ) (f g : DecodeError) →
        RefusesEntry r old bs a x f → RefusesEntry r old bs b y g → (f ≢ OutOfMemory) → (g ≢ OutOfMemory) → (f ≡ g) × SameState r a b

  -- A run is read in one way only, and what is read can't have been refused, memory aside. Two faults of one run come
  -- after the same entries, and leave one rest; where no payload is a message, they are one, and leave one state.
  pub record RunIsPinned : Type 0 where
    pub read : (old : State K V) (bs : List ℕ) (a b : State K V) (x y : List ℕ) →
        ReadsRun r old bs a x → ReadsRun r old bs b y → SameState r a b × (x ≡ y)
    pub refused : (old : State K V) (bs : List ℕ) (a b : State K V) (x y : List ℕ) (f : DecodeError) →
        ReadsRun r old bs a x → RefusesRun r old bs b y f → (f ≢ OutOfMemory) → ⊥
    pub stops : (old : State K V) (bs : List ℕ) (a b : State K V) (x y : List ℕ) (f g : DecodeError) →
        (h : RefusesRun r old bs a x f) (k : RefusesRun r old bs b y g) → (f ≢ OutOfMemory) → (g ≢ OutOfMemory) →
        (h.read.entries ≡ k.read.entries) × (h.rest ≡ k.rest) × SamePairs r.same a.pairs b.pairs × (a.records ≡ b.records) × (x ≡ y)
    pub faults : ArePlainRules → (old : State K V) (bs : List ℕ) (a b : State K V) (x y : List ℕ) (f g : DecodeError) →
        RefusesRun r old bs a x f → RefusesRun r old bs b y g → (f ≢ OutOfMemory) → (g ≢ OutOfMemory) → (f ≡ g) × SameState r a b

-- by these codecs, whatever the rules beside them
module _ {K V : Type 0} (key : Reading K) (val : Reading V) where
  abbrev pub EntriesArePinned : Type 0
  EntriesArePinned =
      (same : K → K → Bool) (ordered : Bool) (d n cost : ℕ) (keeps : Bool) →
      EntryIsPinned (record { key = key; val = val; same = same; keeps_order = ordered; depth = d; number = n; cost = cost; keeps_undeclared = keeps })

  abbrev pub RunsArePinned : Type 0
  RunsArePinned =
      (same : K → K → Bool) (ordered : Bool) (d n cost : ℕ) (keeps : Bool) →
      RunIsPinned (record { key = key; val = val; same = same; keeps_order = ordered; depth = d; number = n; cost = cost; keeps_undeclared = keeps })

-- the payload at the front was merged, and what it costs was spent
abbrev pub IsPaid : {V : Type 0} → Reading V → ℕ → List ℕ → BudgetLeft → BudgetLeft → Type 0
IsPaid codec d bs left over = Spends {T = Unit {0}} codec.nested (Ok tt) left (value_charge codec d bs) over

-- A payload is merged in one way only, and leaves one budget; what is merged and paid can't have been refused; where it
-- is no message, its fault is one.
pub record ValueIsPinned {V : Type 0} (codec : Reading V) : Type 0 where
  pub merged : (d : ℕ) (old : V) (bs : List ℕ) (v w : V) (a b : Bool) (x y : List ℕ) →
      value_at codec d old bs ≡ Ok ((v, a), x) → value_at codec d old bs ≡ Ok ((w, b), y) → (v ≡ w) × (a ≡ b) × (x ≡ y)
  pub spent : (d : ℕ) (bs : List ℕ) (left a b : BudgetLeft) → IsPaid codec d bs left a → IsPaid codec d bs left b → a ≡ b
  pub refused : (d : ℕ) (old : V) (bs : List ℕ) (left over : BudgetLeft) (v : V) (a : Bool) (x : List ℕ) (f : DecodeError) →
      value_at codec d old bs ≡ Ok ((v, a), x) → IsPaid codec d bs left over → RefusesValue codec.nested codec d old bs left f → ⊥
  pub faults : codec.nested ≡ false → (d : ℕ) (old : V) (bs : List ℕ) (left : BudgetLeft) (f g : DecodeError) →
      RefusesValue codec.nested codec d old bs left f → RefusesValue codec.nested codec d old bs left g → f ≡ g
