-- What the promises of entries come to where no payload is a message.
use Rattle.std.specs.Prelude.{◌≡◌, ◌≢◌, ℕ, ◌+◌, ◌<◌, ◌≤◌, Bool, false, List, if◌then◌else◌, ◌⊎◌}
use Rattle.buffa_bytes.specs.Field.{LengthFault, TakesDelimited}
use Rattle.buffa_wire.specs.BudgetLeft.{BudgetLeft}
use Rattle.buffa_bytes.specs.declared.error.DecodeError.{DecodeError}
use Rattle.buffa_bytes.specs.declared.error.DecodeError.TheVariants.{ElementMemoryLimitExceeded, OutOfMemory, UnknownFieldLimitExceeded}
use Rattle.buffa_map.specs.Codec.{Reading}
use Rattle.buffa_map.specs.Entry.{FaultOf, IsEntry}
use Rattle.buffa_map.specs.Merge.{MergesEntry, RefusesEntry, Rules, State, unknown_cost}
use Rattle.buffa_map.specs.declared.map_entry.MapEntry.{MapEntry}

-- f is the first fault: of the length; of the units; of the fields; of the unknown fields left
abbrev pub PlainFault : {K V : Type 0} → Reading K → Reading V → ℕ → ℕ → ℕ → BudgetLeft → List ℕ → DecodeError → Type 0
PlainFault {K} {V} key val d cost unknown_cost left bs f =
    LengthFault bs f
    ⊎ ((e : List ℕ) × (rest : List ℕ) × TakesDelimited bs e rest
    × (((left.memory < cost) × (f ≡ ElementMemoryLimitExceeded))
    ⊎ ((cost ≤ left.memory) × (FaultOf key val d e f
    ⊎ ((s : MapEntry K V) × IsEntry key val d e s × (s.known ≡ false) × (left.unknown < unknown_cost) × (f ≡ UnknownFieldLimitExceeded))))))

module _ {K V : Type 0} (r : Rules K V) (old : State K V) (bytes : List ℕ) where
  -- a merged entry spends its cost, and its unknown fields where its value is undeclared
  abbrev pub MergesExactly : State K V → List ℕ → Type 0
  MergesExactly new rest =
      (m : MergesEntry r old bytes new rest) →
      (new.left.memory + r.cost ≡ old.left.memory) × (new.left.unknown + (if m.says.known then 0 else unknown_cost r) ≡ old.left.unknown)

  -- A refused one spends its cost or nothing, and the cost where the entry was there and the units were. A fault is the
  -- first, and spends no unknown field.
  pub record SpendsExactly (new : State K V) (f : DecodeError) : Type 0 where
    pub which : f ≢ OutOfMemory → PlainFault r.key r.val r.depth r.cost (unknown_cost r) old.left bytes f
    pub units : (new.left.memory ≡ old.left.memory) ⊎ (new.left.memory + r.cost ≡ old.left.memory)
    pub charged : (e rest : List ℕ) → TakesDelimited bytes e rest → r.cost ≤ old.left.memory → new.left.memory + r.cost ≡ old.left.memory
    pub most : new.left.unknown ≤ old.left.unknown
    pub least : old.left.unknown ≤ new.left.unknown + unknown_cost r
    pub no_keeping : f ≢ OutOfMemory → new.left.unknown ≡ old.left.unknown

-- entries under these rules are exact
abbrev pub IsExact : {K V : Type 0} → Rules K V → Type 0
IsExact {K} {V} r =
    (old : State K V) (bytes : List ℕ) (new : State K V) →
    ((rest : List ℕ) → MergesExactly r old bytes new rest) × ((rest : List ℕ) (f : DecodeError) → RefusesEntry r old bytes new rest f → SpendsExactly r old bytes new f)

-- so are entries by these codecs, whatever the rules beside them
abbrev pub EntriesAreExact : {K V : Type 0} → Reading K → Reading V → Type 0
EntriesAreExact {K} {V} key val =
    (same : K → K → Bool) (ordered : Bool) (d n cost : ℕ) (keeps : Bool) →
    IsExact (record { key = key; val = val; same = same; keeps_order = ordered; depth = d; number = n; cost = cost; keeps_undeclared = keeps })
