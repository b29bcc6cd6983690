-- Runs of map records, and what they mean. Source: the protobuf encoding guide, "Maps".
use Rattle.std.specs.Prelude.{◌≡◌, ◌≢◌, ℕ, ◌+◌, ◌*◌, Bool, true, List, [], ◌∷◌, ◌++◌, length, map, if◌then◌else◌, ◌⊎◌}
use Rattle.buffa_bytes.specs.Varint.{IsVarint}
use Rattle.buffa_bytes.specs.Field.{IsTag, TakesTag, TagFault}
use Rattle.buffa_bytes.specs.declared.wire_type.WireType.{WireType}
use Rattle.buffa_bytes.specs.declared.wire_type.WireType.TheVariants.{LengthDelimited}
use Rattle.buffa_bytes.specs.declared.error.DecodeError.{DecodeError}
use Rattle.buffa_bytes.specs.declared.error.DecodeError.TheVariants.{UnexpectedField, WireTypeMismatch}
use Rattle.buffa_wire.specs.BudgetLeft.{BudgetLeft, nothing, plus}
use Rattle.buffa_wire.specs.Records.{FieldData, bytes}
use Rattle.buffa_map.specs.Codec.{Reading}
use Rattle.buffa_map.specs.Entry.{IsEntry, EntryFault}
use Rattle.buffa_map.specs.EntryReading.{blanks, charge_at}
use Rattle.buffa_map.specs.Pairs.{put}
use Rattle.buffa_map.specs.declared.map_entry.MapEntry.{MapEntry}

-- an entry of a run: its bytes, without the tag and the length in front of them; and what it says, which is its key, its value, and
-- whether its last value field held a declared value (`known`)
pub record EntryRecord (K V : Type 0) : Type 0 where
  pub bytes : List ℕ
  pub parts : MapEntry K V

-- the bytes of the entries that are undeclared, in order: those whose last value field has a number that its closed enum doesn't
-- declare, and which so aren't known
abbrev pub undeclared : {K V : Type 0} → List (EntryRecord K V) → List (List ℕ)
undeclared [] = []
undeclared (x ∷ xs) = if x.parts.known then undeclared xs else (x.bytes ∷ undeclared xs)

-- the record of an entry of a field of number n, if it is undeclared
abbrev pub undeclared_record : ℕ → List ℕ → Bool → List (ℕ × FieldData)
undeclared_record n e known = if known then [] else ((n, bytes e) ∷ [])

-- the undeclared entries as length-delimited records of number n
abbrev pub undeclared_records : {K V : Type 0} → ℕ → List (EntryRecord K V) → List (ℕ × FieldData)
undeclared_records n es = map (λ e. (n, bytes e)) (undeclared es)

-- what the entry of a pair says
abbrev pub pair_entry : {K V : Type 0} → K × V → MapEntry K V
pair_entry p = record { key = p.0; value = p.1; known = true }

module _ {K V : Type 0} (key : Reading K) (val : Reading V) (d : ℕ) where
  -- what the messages in these entries cost
  abbrev pub cost_inside : List (EntryRecord K V) → BudgetLeft
  cost_inside [] = nothing
  cost_inside (x ∷ xs) = plus (charge_at key val d (blanks key val d) x.bytes) (cost_inside xs)

  -- left_after is what is left of left after these entries, each of which costs some units of element memory and what the
  -- messages in it cost, and each one that is undeclared some of the unknown fields left
  abbrev pub ArePaid : ℕ → ℕ → BudgetLeft → List (EntryRecord K V) → BudgetLeft → Type 0
  ArePaid cost unknown_cost left es left_after =
      (left_after.memory + (length es * cost + (cost_inside es).memory) ≡ left.memory)
      × (left_after.unknown + (length (undeclared es) * unknown_cost + (cost_inside es).unknown) ≡ left.unknown)

module _ {K V : Type 0} (key : Reading K) (val : Reading V) (d n : ℕ) where
  -- r is a tag of number n, a length, and the entry x of that length
  abbrev pub IsRecord : List ℕ → EntryRecord K V → Type 0
  IsRecord r x =
      (t : List ℕ) × (l : List ℕ) × IsTag t n LengthDelimited × IsVarint l (length x.bytes) × (r ≡ t ++ (l ++ x.bytes))
      × IsEntry key val d x.bytes x.parts

  -- b is a join of records of the entries es, in order
  abbrev pub Run : List ℕ → List (EntryRecord K V) → Type 0
  Run b [] = b ≡ []
  Run b (x ∷ xs) = (r : List ℕ) × (rest : List ℕ) × IsRecord r x × (b ≡ r ++ rest) × Run rest xs

  -- f is why no record begins these bytes, in this order: the tag's fault, another number, another wire
  -- type, the fault of the length and the entry
  abbrev pub RecordFault : ℕ → ℕ → BudgetLeft → List ℕ → DecodeError → Type 0
  RecordFault cost unknown_cost left bs f =
      TagFault bs f
      ⊎ (((g : ℕ) × (w : WireType) × (rest : List ℕ) × TakesTag bs g w rest × (g ≢ n) × (f ≡ UnexpectedField g))
      ⊎ (((w : WireType) × (rest : List ℕ) × TakesTag bs n w rest × (w ≢ LengthDelimited) × (f ≡ WireTypeMismatch n LengthDelimited w))
      ⊎ ((rest : List ℕ) × TakesTag bs n LengthDelimited rest × EntryFault key val d cost unknown_cost left rest f)))

  -- the records of some entries begin the bytes, and are paid; f is the first fault of what is left
  abbrev pub RunFault : ℕ → ℕ → BudgetLeft → List ℕ → DecodeError → Type 0
  RunFault cost unknown_cost left bs f =
      (es : List (EntryRecord K V)) × (rest : List ℕ) × (left_after : BudgetLeft)
      × ((front : List ℕ) × (bs ≡ front ++ rest) × Run front es × ArePaid key val d cost unknown_cost left es left_after)
      × (rest ≢ []) × RecordFault cost unknown_cost left_after rest f

module _ {K V : Type 0} (eq : K → K → Bool) where
  -- the pairs after an entry that said s: a declared one is put
  abbrev pub step : List (K × V) → MapEntry K V → List (K × V)
  step m s = if s.known then put eq m s.key s.value else m

  -- the pairs after the entries, in order
  abbrev pub fold_entries : List (K × V) → List (EntryRecord K V) → List (K × V)
  fold_entries m [] = m
  fold_entries m (x ∷ xs) = fold_entries (step m x.parts) xs
