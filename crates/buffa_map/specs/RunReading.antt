-- What the bytes of a run are read as: the same as the relations of `Run` say, by functions. The law `runs_are_read` says that the
-- two agree.
use Rattle.std.specs.Prelude.{ℕ, ◌+◌, ◌-◌, nat_lt, ◌==◌, ◌&&◌, ◌||◌, not, Bool, List, [], ◌∷◌, ◌++◌, if◌then◌else◌, Result, Ok, Err}
use Rattle.buffa_bytes.specs.Readings.{tag_at, check_wire, delimited_at, ◌>>=◌}
use Rattle.buffa_bytes.specs.Scan.{parse_all}
use Rattle.buffa_bytes.specs.declared.wire_type.WireType.TheVariants.{LengthDelimited}
use Rattle.buffa_bytes.specs.declared.error.DecodeError.{DecodeError}
use Rattle.buffa_bytes.specs.declared.error.DecodeError.TheVariants.{ElementMemoryLimitExceeded, UnexpectedField, UnknownFieldLimitExceeded}
use Rattle.buffa_wire.specs.BudgetLeft.{BudgetLeft}
use Rattle.buffa_map.specs.Codec.{Reading}
use Rattle.buffa_map.specs.EntryReading.{entry_of, charge_of}
use Rattle.buffa_map.specs.Run.{EntryRecord}
use Rattle.buffa_map.specs.declared.map_entry.MapEntry.{MapEntry}

-- whether need can't be spent of left
abbrev pub lacks : BudgetLeft → BudgetLeft → Bool
lacks left charge = nat_lt left.unknown charge.unknown || nat_lt left.memory charge.memory

module _ {K V : Type 0} (key : Reading K) (val : Reading V) (d : ℕ) where
  -- What the entry e says, if left pays for it. Where a fault inside a message isn't named, or what the messages cost
  -- isn't left, the error stands for any that may be told.
  abbrev pub entry_in : ℕ → ℕ → BudgetLeft → List ℕ → Result (MapEntry K V) DecodeError
  entry_in cost unknown_cost left e =
      let charge : BudgetLeft = charge_of key val d cost e in
      if lacks left charge then Err ElementMemoryLimitExceeded else (do
        s ← entry_of key val d e
        if not s.known && nat_lt left.unknown (charge.unknown + unknown_cost) then Err UnknownFieldLimitExceeded else Ok s)

  -- what is left of the budget after an entry
  abbrev pub after_entry : ℕ → ℕ → BudgetLeft → EntryRecord K V → BudgetLeft
  after_entry cost unknown_cost left x =
      let charge : BudgetLeft = charge_of key val d cost x.bytes in
      record { unknown = left.unknown - (charge.unknown + (if x.parts.known then 0 else unknown_cost)); memory = left.memory - charge.memory }

module _ {K V : Type 0} (key : Reading K) (val : Reading V) (d n : ℕ) where
  -- what the record at the front is read as
  abbrev pub record_at : ℕ → ℕ → BudgetLeft → List ℕ → Result (EntryRecord K V × List ℕ) DecodeError
  record_at cost unknown_cost left bs = do
    t ← tag_at bs
    if t.0 == n then (do
      _ ← check_wire n LengthDelimited t.1
      e ← delimited_at t.2
      s ← entry_in key val d cost unknown_cost left e.0
      Ok (record { bytes = e.0; parts = s }, e.1)) else Err (UnexpectedField t.0)

  -- the entries, and what is left, with the record at the front behind them
  abbrev pub next_record : ℕ → ℕ → List (EntryRecord K V) × BudgetLeft → List ℕ → Result ((List (EntryRecord K V) × BudgetLeft) × List ℕ) DecodeError
  next_record cost unknown_cost s bs = record_at cost unknown_cost s.1 bs >>= (λ x. Ok ((s.0 ++ x.0 ∷ [], after_entry key val d cost unknown_cost s.1 x.0), x.1))

  -- what a whole run is read as: its entries, and what is left after them
  abbrev pub run_of : ℕ → ℕ → BudgetLeft → List ℕ → Result (List (EntryRecord K V) × BudgetLeft) DecodeError
  run_of cost unknown_cost left bs = parse_all (next_record cost unknown_cost) ([], left) bs
