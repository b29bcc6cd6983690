-- Entries of map fields in a message: what one does to a value, and what it costs.
-- Source: the protobuf encoding guide, "Maps".
use Rattle.std.specs.Prelude.{ℕ, List, [], ◌∷◌, Option, None, Result, Ok, Err, if◌then◌else◌}
use Rattle.std.specs.Option.{option_map}
use Rattle.buffa_bytes.specs.declared.error.DecodeError.{DecodeError}
use Rattle.buffa_bytes.specs.declared.wire_type.WireType.TheVariants.{LengthDelimited}
use Rattle.buffa_wire.specs.BudgetLeft.{BudgetLeft, charge_by, nothing}
use Rattle.buffa_bytes.specs.Readings.{delimited_at, same_wire}
use Rattle.buffa_map.specs.Codec.{Reading}
use Rattle.buffa_map.specs.EntryReading.{entry_of}
use Rattle.buffa_map.specs.declared.map_entry.MapEntry.{MapEntry}
use Rattle.buffa_wire.specs.ByField.{value_of}
use Rattle.buffa_wire.specs.Takes.{Charge, Taker}

module _ {K V : Type 0} (key : Reading K) (val : Reading V) where
  -- the entry that a whole payload holds: its bytes, and what they say
  abbrev pub whole_entry_in : ℕ → Result (List ℕ × List ℕ) DecodeError → Option (List ℕ × MapEntry K V)
  whole_entry_in d (Ok (e, [])) = option_map (λ s. (e, s)) (value_of (entry_of key val d e))
  whole_entry_in d (Ok (e, b ∷ bs)) = None
  whole_entry_in d (Err f) = None

  -- each payload is an entry, which does so to the value
  unfoldable pub entry_taken : {X : Type 0} → (X → List ℕ → MapEntry K V → X) → Taker X
  entry_taken does d v n w p = if same_wire LengthDelimited w then option_map (λ x. does v x.0 x.1) (whole_entry_in d (delimited_at p)) else None

-- where a length and so many bytes are there, these cost so much, at a depth
unfoldable pub entry_cost : (ℕ → List ℕ → BudgetLeft) → Charge
entry_cost costs d n w bs = if same_wire LengthDelimited w then charge_by (delimited_at bs) (λ e. costs d e.0) else nothing
