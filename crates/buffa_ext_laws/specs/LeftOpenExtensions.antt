-- What the contracts of extensions leave open: nothing, but for what is said here.
use Rattle.std.specs.Prelude.{◌≡◌, ◌≢◌, ℕ, Bool, List, [], ◌∷◌, Option, Ok, Err, option_map}
use Rattle.std.specs.List.{filter_map}
use Rattle.buffa_bytes.specs.declared.error.DecodeError.{DecodeError}
use Rattle.buffa_bytes.specs.declared.error.DecodeError.TheVariants.{OutOfMemory}
use Rattle.buffa_wire.specs.BudgetLeft.{BudgetLeft, Covers, defaults}
use Rattle.buffa_wire.specs.Records.{FieldData, Held}
use Rattle.buffa_ext.specs.Defaults.{IsDefaulted}
use Rattle.buffa_ext.specs.Messages.{IsAllMerged, MergesRecords, StopsAt, cost_all, encodings_in}
use Rattle.buffa_ext.specs.SetsAndClears.{IsCleared, IsSet}

-- records that are merged leave one value and one budget, and return in one way whether there was an encoding; what is
-- merged isn't refused, memory aside; and what is refused stops at one record, memory aside
pub record MergingIsPinned {X : Type 0} (merged : X → List ℕ → Option X) (cost : List ℕ → BudgetLeft) (held : FieldData → Option (List ℕ)) (asks : FieldData → Type 0) : Type 0 where
  pub alike : (ds : List FieldData) (old new newer : X) (before left over : BudgetLeft) (f g : Bool)
      → MergesRecords merged cost held asks ds old before (Ok f) new left → MergesRecords merged cost held asks ds old before (Ok g) newer over
      → (f ≡ g) × (new ≡ newer) × (left ≡ over)
  pub refused : (ds : List FieldData) (old new newer : X) (before left over : BudgetLeft) (f : Bool) (e : DecodeError)
      → MergesRecords merged cost held asks ds old before (Ok f) new left → MergesRecords merged cost held asks ds old before (Err e) newer over
      → (e ≢ OutOfMemory) → ⊥
  pub stopped : (ds : List FieldData) (old : X) (before left over : BudgetLeft) (e f : DecodeError)
      → (h : StopsAt merged cost held asks ds old before e left) (k : StopsAt merged cost held asks ds old before f over)
      → e ≢ OutOfMemory → f ≢ OutOfMemory → h.0 ≡ k.0

-- merging the encoding in one record leaves one value and one budget, and returns in one way whether there was an
-- encoding; what is merged isn't refused, memory aside
pub record RecordMergeIsPinned {X : Type 0} (merged : X → List ℕ → Option X) (cost : List ℕ → BudgetLeft) (held : FieldData → Option (List ℕ)) : Type 0 where
  pub alike : (d : FieldData) (old new newer : X) (before left over : BudgetLeft) (f g : Bool)
      → IsAllMerged merged cost (encodings_in held (d ∷ [])) old before (Ok f) new left → IsAllMerged merged cost (encodings_in held (d ∷ [])) old before (Ok g) newer over
      → (f ≡ g) × (new ≡ newer) × (left ≡ over)
  pub refused : (d : FieldData) (old new newer : X) (before left over : BudgetLeft) (f : Bool) (e : DecodeError)
      → IsAllMerged merged cost (encodings_in held (d ∷ [])) old before (Ok f) new left → IsAllMerged merged cost (encodings_in held (d ∷ [])) old before (Err e) newer over
      → (e ≢ OutOfMemory) → ⊥

-- where all encodings are covered, a list has the value of each that means one
abbrev pub ListIsExact : {X : Type 0} → (List FieldData → List X → Type 0) → (X → List ℕ → Option X) → (List ℕ → BudgetLeft) → X → (FieldData → Option (List ℕ)) → Type 0
ListIsExact {X = X} reads merged cost blank held =
    (ds : List FieldData) (vs : List X) → Covers defaults (cost_all cost (encodings_in held ds)) → reads ds vs → vs ≡ filter_map (merged blank) (encodings_in held ds)

-- a value that is read, else declared, else the blank is one, if all that may be declared is one
abbrev pub DefaultIsPinned : {V M : Type 0} → (List FieldData → Option M → Type 0) → (V → M) → M → (Option V → Type 0) → Type 0
DefaultIsPinned {V = V} {M = M} reads meaning blank declared =
    (ds : List FieldData) (v w : V)
    → ((o p : Option V) → declared o → declared p → option_map meaning o ≡ option_map meaning p)
    → IsDefaulted (λ o. reads ds (option_map meaning o)) declared (meaning v ≡ blank) v
    → IsDefaulted (λ o. reads ds (option_map meaning o)) declared (meaning w ≡ blank) w
    → meaning v ≡ meaning w

abbrev pub SetIsPinned : Type 0
SetIsPinned = (n : ℕ) (ds : List FieldData) (old a b : Held) → IsSet n ds old a → IsSet n ds old b → a.records ≡ b.records

abbrev pub ClearIsPinned : Type 0
ClearIsPinned = (n : ℕ) (old a b : Held) → IsCleared n old a → IsCleared n old b → a.records ≡ b.records
