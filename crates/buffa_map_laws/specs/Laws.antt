-- What the laws of entries, runs, sizes and rewrites say.
use Rattle.std.specs.Prelude.{◌≡◌, ◌<◌, ◌≤◌, ◌+◌, ◌↔◌, ℕ, ℤ, Bool, false, List, [], ◌++◌, length, Ok, Err, cond}
use Rattle.std.specs.Cmp.{IsEquivalence}
use Rattle.std.specs.List.{IsDistinct}
use Rattle.std.specs.List.Sorted.{IsPermutation}
use Rattle.std.specs.Map.{keys_of}
use Rattle.buffa_bytes.specs.declared.error.DecodeError.{DecodeError}
use Rattle.buffa_bytes.specs.PayloadValue.{PayloadValue, TakesPayloadValue}
use Rattle.buffa_wire.specs.Enums.{DeclaresBlank, Numbers, Refines}
use Rattle.buffa_wire.specs.BudgetLeft.{BudgetLeft, nothing, units}
use Rattle.buffa_bytes.specs.Number.{IsNumber}
use Rattle.buffa_map.specs.Codec.{Reading, ValueFault, Writing, level, value_at}
use Rattle.buffa_map.specs.Entry.{EntryFault, EntryOf, FaultOf, IsEntry}
use Rattle.buffa_map.specs.EntryReading.{entry_of, inner_charge, charge_of}
use Rattle.buffa_map.specs.Enums.{ClosedFits, closed_reading, closed_writing}
use Rattle.buffa_map.specs.MessageField.{IsSmallField}
use Rattle.buffa_map.specs.Scalars.{delimited_writing}
use Rattle.buffa_map.specs.Pairs.{ListsOnce}
use Rattle.buffa_map.specs.Rewrite.{IsRewrite, KeepsMeaning}
use Rattle.buffa_map.specs.Run.{fold_entries, undeclared, ArePaid, Run, RunFault, EntryRecord, cost_inside}
use Rattle.buffa_map.specs.RunReading.{run_of}
use Rattle.buffa_map.specs.Encoding.{AllHold, HasEncoding, field_size, field_encoding}
use Rattle.buffa_map.specs.declared.map_entry.MapEntry.{MapEntry}

module _ {V : Type 0} (codec : Reading V) where
  -- A payload is read exactly where its wire type has one that the codec takes, and refused exactly where not.
  pub record ValuesAreRead : Type 0 where
    pub ok : (d : ℕ) (old : V) (bs : List ℕ) (new : V) (known : Bool) (rest : List ℕ) →
        (value_at codec d old bs ≡ Ok ((new, known), rest))
        ↔ ((level codec.nested d ≡ Ok tt) × (c : PayloadValue) × TakesPayloadValue codec.wire bs c rest × (codec.reads d old c ≡ Ok (new, known)))
    pub refused : (d : ℕ) (old : V) (bs : List ℕ) (f : DecodeError) → value_at codec d old bs ≡ Err f → ValueFault codec d old bs f

module _ {K V : Type 0} (key : Reading K) (val : Reading V) where
  -- no payload is a message
  abbrev pub ArePlain : Type 0
  ArePlain = (key.nested ≡ false) × (val.nested ≡ false)

  -- A whole entry is read exactly where the grammar has it, and refused where the grammar has a fault; where no
  -- payload is a message, with that fault.
  pub record EntriesAreRead : Type 0 where
    pub ok : (d : ℕ) (e : List ℕ) (s : MapEntry K V) → (entry_of key val d e ≡ Ok s) ↔ IsEntry key val d e s
    pub err : ArePlain → (d : ℕ) (e : List ℕ) (f : DecodeError) → (entry_of key val d e ≡ Err f) ↔ FaultOf key val d e f
    pub refused : (d : ℕ) (e : List ℕ) (f : DecodeError) → FaultOf key val d e f → (x : DecodeError) × (entry_of key val d e ≡ Err x)

  -- the same of a run of records, of which each is paid
  pub record RunsAreRead : Type 0 where
    pub ok : (d n cost unknown_cost : ℕ) (left : BudgetLeft) (bs : List ℕ) (es : List (EntryRecord K V)) (left_after : BudgetLeft) →
        (run_of key val d n cost unknown_cost left bs ≡ Ok (es, left_after)) ↔ (Run key val d n bs es × ArePaid key val d cost unknown_cost left es left_after)
    pub err : ArePlain → (d n cost unknown_cost : ℕ) (left : BudgetLeft) (bs : List ℕ) (f : DecodeError) →
        (run_of key val d n cost unknown_cost left bs ≡ Err f) ↔ RunFault key val d n cost unknown_cost left bs f
    pub refused : (d n cost unknown_cost : ℕ) (left : BudgetLeft) (bs : List ℕ) (f : DecodeError) →
        RunFault key val d n cost unknown_cost left bs f → (x : DecodeError) × (run_of key val d n cost unknown_cost left bs ≡ Err x)

  -- where no payload is a message, units are all that is needed
  pub record ChargesUnits : Type 0 where
    pub entry : ArePlain → (d cost : ℕ) (e : List ℕ) → charge_of key val d cost e ≡ units cost
    pub front : ArePlain → (d : ℕ) (bs : List ℕ) → inner_charge key val d bs ≡ nothing
    pub run : ArePlain → (d : ℕ) (es : List (EntryRecord K V)) → cost_inside key val d es ≡ nothing

  -- bytes are an entry, or a run, in one way only, and not while they have a fault
  pub record OneReading : Type 0 where
    pub entry : (d : ℕ) (e : List ℕ) (s t : MapEntry K V) → IsEntry key val d e s → IsEntry key val d e t → s ≡ t
    pub entry_or_fault : (d : ℕ) (e : List ℕ) (s : MapEntry K V) (f : DecodeError) → IsEntry key val d e s → FaultOf key val d e f → ⊥
    -- one length, one entry and one rest begin the bytes
    pub front : (d : ℕ) (bs e a : List ℕ) (s : MapEntry K V) (f b : List ℕ) (t : MapEntry K V) → EntryOf key val d bs e s a → EntryOf key val d bs f t b → (e ≡ f) × (a ≡ b) × (s ≡ t)
    -- an entry that is paid has no fault
    pub front_or_fault : (d cost unknown_cost : ℕ) (left : BudgetLeft) (bs e rest : List ℕ) (s : MapEntry K V) (f : DecodeError) → EntryOf key val d bs e s rest →
        (charge_of key val d cost e).memory ≤ left.memory → (charge_of key val d cost e).unknown + cond s.known 0 unknown_cost ≤ left.unknown →
        EntryFault key val d cost unknown_cost left bs f → ⊥
    pub run : (d n : ℕ) (bs : List ℕ) (es fs : List (EntryRecord K V)) → Run key val d n bs es → Run key val d n bs fs → es ≡ fs
    -- a run that is paid has no fault
    pub run_or_fault : (d n cost unknown_cost : ℕ) (left left_after : BudgetLeft) (bs : List ℕ) (es : List (EntryRecord K V)) (f : DecodeError) →
        Run key val d n bs es → ArePaid key val d cost unknown_cost left es left_after → RunFault key val d n cost unknown_cost left bs f → ⊥

  -- Two runs, one after the other, are a run of the entries of both; it makes of a map what the second one makes of
  -- what the first one makes of it, and keeps what both keep, in order.
  pub record RunsJoin (eq : K → K → Bool) : Type 0 where
    pub run : (d n : ℕ) (a b : List ℕ) (es fs : List (EntryRecord K V)) → Run key val d n a es → Run key val d n b fs → Run key val d n (a ++ b) (es ++ fs)
    pub fold : (m : List (K × V)) (es fs : List (EntryRecord K V)) → fold_entries eq m (es ++ fs) ≡ fold_entries eq (fold_entries eq m es) fs
    pub kept : (es fs : List (EntryRecord K V)) → undeclared (es ++ fs) ≡ undeclared es ++ undeclared fs

-- Two walks of one map give the same pairs, in some order, and have one size.
pub record WalksAgree {K V : Type 0} (key : Writing K) (val : Writing V) (eq : K → K → Bool) : Type 0 where
  pub pairs : (m a b : List (K × V)) → ListsOnce eq m a → ListsOnce eq m b → IsPermutation a b
  pub size : (t : ℕ) (m a b : List (K × V)) → ListsOnce eq m a → ListsOnce eq m b → field_size key val t a ≡ field_size key val t b

-- The encoding of normal pairs with distinct keys is a run, which makes these pairs of the empty map, keeps nothing,
-- and has an entry for each pair.
module _ {K V : Type 0} (key : Reading K) (val : Reading V) (kw : Writing K) (vw : Writing V) (eq : K → K → Bool)
    (KeyFits KeyNormal : K → Type 0) (ValFits ValNormal : V → Type 0) where
  pub record FieldReadsBack (d n : ℕ) (l : List (K × V)) : Type 0 where
    pub entries : List (EntryRecord K V)
    pub run : Run key val d n (field_encoding kw vw n l) entries
    pub folded : fold_entries eq [] entries ≡ l
    pub declared : undeclared entries ≡ []
    pub many : length entries ≡ length l

  abbrev pub WrittenIsRead : Type 0
  WrittenIsRead =
      (d n : ℕ) (l : List (K × V)) → IsNumber n → HasEncoding kw vw l → AllHold KeyFits ValFits l → AllHold KeyNormal ValNormal l → IsDistinct eq (keys_of l) → FieldReadsBack d n l

-- The same of normal messages, where they are small enough to be written, and a level is left for each of theirs.
module _ {K M : Type 0} (key : Reading K) (val : Reading M) (kw : Writing K) (encoding : M → List ℕ) (eq : K → K → Bool)
    (KeyFits KeyNormal : K → Type 0) (ValFits ValNormal : M → Type 0) (levels : M → ℕ) where
  abbrev pub MessagesAreRead : Type 0
  MessagesAreRead =
      (d n : ℕ) (l : List (K × M)) → IsNumber n → IsSmallField kw encoding l → AllHold KeyFits ValFits l → AllHold KeyNormal ValNormal l →
      AllHold (λ k. Unit {0}) (λ v. levels v < d) l → IsDistinct eq (keys_of l) → FieldReadsBack key val kw (delimited_writing encoding) eq KeyFits KeyNormal ValFits ValNormal d n l

-- A run that a reader of the enum e takes is taken by a reader of an enum f that declares all that e declares.
abbrev pub NewerTakes : {K : Type 0} → Reading K → Type 0
NewerTakes {K} key =
    (e f : Numbers) → DeclaresBlank e → Refines e f → (d n : ℕ) (b : List ℕ) (es : List (EntryRecord K ℤ)) →
    Run key (closed_reading e) d n b es → (fs : List (EntryRecord K ℤ)) × Run key (closed_reading f) d n b fs

-- A reader of the enum e reads a run, and writes the map and the entries that e doesn't declare. The enum f declares all
-- that e declares, and has the same default. Its reader reads the rewrite as a run that keeps the meaning of the first.
abbrev pub RewriteMeans : {K : Type 0} → Reading K → Writing K → (K → Type 0) → Type 0
RewriteMeans {K} key kw KeyFits =
    (same : K → K → Bool) → IsEquivalence same → (e f : Numbers) → DeclaresBlank e → Refines e f →
    (d n : ℕ) (b out : List ℕ) (es fs : List (EntryRecord K ℤ)) → IsNumber n →
    Run key (closed_reading e) d n b es → Run key (closed_reading f) d n b fs → IsRewrite same kw closed_writing KeyFits (ClosedFits e) n es out →
    (gs : List (EntryRecord K ℤ)) × Run key (closed_reading f) d n out gs × KeepsMeaning same es fs gs
