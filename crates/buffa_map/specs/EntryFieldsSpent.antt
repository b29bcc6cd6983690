-- What reading the fields of an entry does to a budget that pays its cost as well, and to the bytes.
use Rattle.std.specs.Prelude.{◌≡◌, ◌≢◌, ℕ, ◌+◌, ◌<◌, ◌≤◌, true, List, ◌⊎◌, length, take, drop}
use Rattle.buffa_bytes.specs.declared.error.DecodeError.{DecodeError}
use Rattle.buffa_bytes.specs.declared.error.DecodeError.TheVariants.{ElementMemoryLimitExceeded, OutOfMemory, UnexpectedEof}
use Rattle.buffa_wire.specs.BudgetLeft.{BudgetLeft, Lacks, Pays}
use Rattle.buffa_map.specs.Codec.{Reading}
use Rattle.buffa_map.specs.Entry.{FaultOf, IsEntry, EntryFieldsTakeMemory}
use Rattle.buffa_map.specs.EntryReading.{charge_of}
use Rattle.buffa_map.specs.declared.map_entry.MapEntry.{MapEntry}

module _ {K V : Type 0} (key : Reading K) (val : Reading V) (d cost : ℕ) where
  -- e is an entry that says so, and what it needs is spent
  pub record ReadsParts (e : List ℕ) (left : BudgetLeft) (says : MapEntry K V) (left_after : BudgetLeft) : Type 0 where
    pub entry : IsEntry key val d e says
    pub pays : Pays left (charge_of key val d cost e) left_after

  -- f is why not: the units, or the fields; out of memory only where the units were left, and a field takes memory, or
  -- the pair of the whole entry; at most what the entry needs is spent, and at least its cost, where that was left
  pub record RefusesParts (e : List ℕ) (left left_after : BudgetLeft) (f : DecodeError) : Type 0 where
    pub fault : f ≢ OutOfMemory → ((left.memory < cost) × (f ≡ ElementMemoryLimitExceeded))
        ⊎ ((cost ≤ left.memory) × (Lacks left (charge_of key val d cost e) ⊎ FaultOf key val d e f))
    pub memory : f ≡ OutOfMemory → (cost ≤ left.memory)
        × (EntryFieldsTakeMemory key val d e ⊎ ((s : MapEntry K V) × IsEntry key val d e s × (s.known ≡ true)))
    pub units : (left_after.memory ≡ left.memory)
        ⊎ ((left_after.memory + cost ≤ left.memory) × (left.memory ≤ left_after.memory + (charge_of key val d cost e).memory))
    pub charged : cost ≤ left.memory → left_after.memory + cost ≤ left.memory
    pub most : left_after.unknown ≤ left.unknown
    pub least : left.unknown ≤ left_after.unknown + (charge_of key val d cost e).unknown

  -- the first n bytes are such an entry, and rest follows them
  pub record ReadsCut (n : ℕ) (bytes : List ℕ) (left : BudgetLeft) (says : MapEntry K V) (left_after : BudgetLeft) (rest : List ℕ) : Type 0 where
    pub fits : n ≤ length bytes
    pub follows : rest ≡ drop n bytes
    pub parts : ReadsParts (take n bytes) left says left_after

  -- f is why not: they aren't there, and all is as it was; or they are refused, and rest follows them
  abbrev pub RefusesCut : ℕ → List ℕ → BudgetLeft → BudgetLeft → List ℕ → DecodeError → Type 0
  RefusesCut n bytes left left_after rest f =
      ((length bytes < n) × (f ≡ UnexpectedEof) × (rest ≡ bytes) × (left_after ≡ left))
      ⊎ ((n ≤ length bytes) × (rest ≡ drop n bytes) × RefusesParts (take n bytes) left left_after f)
