-- What is said of a refused field of a node. Source: the protobuf encoding guide, "Maps" and "Message Structure".
use Rattle.std.specs.Prelude.{◌≡◌, ◌≢◌, ◌⊎◌, ℕ, List, Err}
use Rattle.buffa_bytes.specs.declared.error.DecodeError.{DecodeError}
use Rattle.buffa_bytes.specs.declared.error.DecodeError.TheVariants.{OutOfMemory}
use Rattle.buffa_bytes.specs.declared.wire_type.WireType.{WireType}
use Rattle.buffa_bytes.specs.declared.wire_type.WireType.TheVariants.{LengthDelimited}
use Rattle.buffa_bytes.specs.Readings.{check_wire}
use Rattle.buffa_wire.specs.BudgetLeft.{BudgetLeft}
use Rattle.buffa_wire.specs.RecordReading.{field_at}
use Rattle.buffa_map.specs.Codec.{Reading}
use Rattle.buffa_map.specs.Entry.{EntryFault}
use Rattle.buffa_map.specs.Scalars.{int32_reading, text_reading}
use Rattle.buffa_map.specs.Message.{message_reading}
use Rattle.sample_node.specs.Branch.{Branch, blank_node}
use Rattle.sample_node.specs.NodeMeaning.{node_cost, node_merged, shade_reading}

-- e is why the field of a map isn't merged: the field is of another wire type; or its entry, which costs so many units, has
-- this fault under the budget, where one that is undeclared takes so many unknown fields
abbrev pub HasEntryFault : {K V : Type 0} → Reading K → Reading V → ℕ → ℕ → ℕ → ℕ → WireType → List ℕ → BudgetLeft → DecodeError → Type 0
HasEntryFault key val cost extra d n w bs left e =
    (check_wire n LengthDelimited w ≡ Err e) ⊎ ((w ≡ LengthDelimited) × EntryFault key val d cost extra left bs e)

-- A refused field leaves the node as it was. Unless memory ran out, the error is the fault of the entry, or of the record that would
-- be kept, under the budget that was left. Which error refuses what is inside a child isn't said.
pub record IsNodeRefused (d : ℕ) (old : Branch) (n : ℕ) (w : WireType) (bs : List ℕ) (left : BudgetLeft) (e : DecodeError) (new : Branch) : Type 0 where
  pub stays : new ≡ old
  pub score : n ≡ 1 → e ≢ OutOfMemory → HasEntryFault text_reading int32_reading 28 0 d n w bs left e
  pub child : n ≡ 2 → e ≢ OutOfMemory → HasEntryFault int32_reading (message_reading blank_node node_merged node_cost) 100 0 d n w bs left e
  pub shade : n ≡ 3 → e ≢ OutOfMemory → HasEntryFault int32_reading shade_reading 8 1 d n w bs left e
  pub other : n ≢ 1 → n ≢ 2 → n ≢ 3 → e ≢ OutOfMemory → field_at d left.unknown n w bs ≡ Err e
