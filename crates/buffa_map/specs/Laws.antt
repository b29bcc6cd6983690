-- What the two laws of map fields say that code above calls.
use Rattle.std.specs.Prelude.{◌≡◌, ◌⊎◌, ℕ, false, List, length}
use Rattle.buffa_bytes.specs.declared.error.DecodeError.{DecodeError}
use Rattle.buffa_bytes.specs.declared.wire_type.WireType.TheVariants.{LengthDelimited}
use Rattle.buffa_bytes.specs.Field.{TakesDelimited}
use Rattle.buffa_bytes.specs.Values.{tag_encoding}
use Rattle.buffa_wire.specs.BudgetLeft.{BudgetLeft, IsLimit, Lacks, plus, unknown_fields}
use Rattle.buffa_map.specs.Codec.{Reading, Writing}
use Rattle.buffa_map.specs.Encoding.{field_encoding, field_size}
use Rattle.buffa_map.specs.Entry.{EntryFault, IsEntry}
use Rattle.buffa_map.specs.EntryReading.{charge_of}
use Rattle.buffa_map.specs.declared.map_entry.MapEntry.{MapEntry}

-- an error of a budget is a fault of an entry only where what it needs isn't left: its units, what the messages in it
-- cost, and the unknown fields of one that is undeclared
abbrev pub LimitsAreTrue : {K V : Type 0} → Reading K → Reading V → Type 0
LimitsAreTrue {K} {V} key val =
    (d cost unknown_cost : ℕ) (left : BudgetLeft) (bs : List ℕ) (f : DecodeError) → EntryFault key val d cost unknown_cost left bs f → IsLimit f →
    (e : List ℕ) × (rest : List ℕ) × TakesDelimited bs e rest × (Lacks left (charge_of key val d cost e)
    ⊎ ((s : MapEntry K V) × IsEntry key val d e s × (s.known ≡ false) × Lacks left (plus (charge_of key val d cost e) (unknown_fields unknown_cost))))

-- the size of a field is the length of its encoding
abbrev pub SizeIsLength : {K V : Type 0} → Writing K → Writing V → Type 0
SizeIsLength {K} {V} key val = (n : ℕ) (l : List (K × V)) → length (field_encoding key val n l) ≡ field_size key val (length (tag_encoding n LengthDelimited)) l
