-- What is proved of entries of map fields in a message.
use Rattle.std.proofs.Common.{◌≡◌, ℕ, ◌^◌, ◌<◌, List, length, Some, refl}
use Rattle.buffa_bytes.specs.declared.wire_type.WireType.TheVariants.{LengthDelimited}
use Rattle.buffa_bytes.specs.Values.{delimited_encoding}
use Rattle.buffa_wire.specs.BudgetLeft.{BudgetLeft, charge_by}
use Rattle.buffa_wire.specs.Takes.{Stays}
use Rattle.buffa_map.proofs.EntryLemmas.{entry_complete}
use Rattle.buffa_map.specs.Codec.{Reading}
use Rattle.buffa_map.specs.Entry.{IsEntry}
use Rattle.buffa_map.specs.declared.map_entry.MapEntry.{MapEntry}
use Rattle.buffa_fields.specs.EntriesTaken.{entry_cost, entry_taken}
use Rattle.buffa_fields.specs.facts.InsideFacts.{delimited_stays}
use Rattle.buffa_fields.specs.facts.ValueFacts.{delimited_whole}

-- what an entry costs is known by the payload
pub entry_stays : (costs : ℕ → List ℕ → BudgetLeft) → Stays (entry_cost costs)
unfolding entry_cost
entry_stays costs = delimited_stays (λ d r. charge_by r (λ e. costs d e.0)) (λ d b x y. refl)

-- an entry that is read does what it does
pub read_entry : {K V X : Type 0} (key : Reading K) (val : Reading V) (does : X → List ℕ → MapEntry K V → X) (d n : ℕ) (v : X) (e : List ℕ) (s : MapEntry K V) → length e < 2 ^ 64 → IsEntry key val d e s → entry_taken key val does d v n LengthDelimited (delimited_encoding e) ≡ Some (does v e s)
unfolding entry_taken
read_entry key val does d n v e s short h = rw (delimited_whole e short, entry_complete key val d e s h) refl
