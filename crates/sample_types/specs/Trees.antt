-- What a tree is, one level at a time: of its children it says what is said of any tree.
-- Source: the protobuf encoding guide, "Maps" and "Submessages".
use Rattle.std.specs.Prelude.{◌≡◌, ◌≢◌, ◌⊎◌, ℕ, suc, max, ◌==◌, ◌&&◌, ℤ, FitsSigned, pos, List, [], ◌∷◌, ◌++◌, length, map, Option, Some, None, Result, Ok, Err, cond, true, if◌then◌else◌}
use Rattle.std.specs.BTreeMap.{insert_entry}
use Rattle.std.specs.Int.{w32}
use Rattle.std.specs.List.{AllByRecursion, flat_map}
use Rattle.std.specs.List.Sorted.{IsStrictlySortedBy}
use Rattle.std.specs.Map.{keys_of}
use Rattle.std.specs.Option.{option_map}
use Rattle.std.specs.Ordering.{int_cmp}
use Rattle.buffa_bytes.specs.Readings.{check_wire, delimited_at, skip_at, same_wire}
use Rattle.buffa_bytes.specs.Values.{int32_at}
use Rattle.buffa_bytes.specs.declared.error.DecodeError.{DecodeError}
use Rattle.buffa_bytes.specs.declared.error.DecodeError.TheVariants.{OutOfMemory}
use Rattle.buffa_bytes.specs.declared.wire_type.WireType.{WireType}
use Rattle.buffa_bytes.specs.declared.wire_type.WireType.TheVariants.{LengthDelimited, Varint}
use Rattle.buffa_wire.specs.BudgetLeft.{BudgetLeft, charge_by, nothing}
use Rattle.buffa_wire.specs.ByField.{value_of}
use Rattle.buffa_wire.specs.Passes.{cap}
use Rattle.buffa_wire.specs.Records.{FieldData, bytes}
use Rattle.buffa_wire.specs.Takes.{Charge, Taker}
use Rattle.buffa_map.specs.Codec.{Reading}
use Rattle.buffa_map.specs.Encoding.{entry_encoding}
use Rattle.buffa_map.specs.Entry.{EntryFault, IsEntry, EntryFieldsTakeMemory}
use Rattle.buffa_map.specs.EntryReading.{entry_of, charge_of}
use Rattle.buffa_map.specs.Message.{message_reading}
use Rattle.buffa_map.specs.Scalars.{delimited_writing, int32_reading, int32_writing}
use Rattle.buffa_map.specs.declared.map_entry.MapEntry.{MapEntry}
use Rattle.buffa_recursive.specs.MessageTree.{MessageTree, TreeList, first_tree, message_tree, many, no_trees, no_inner}
use Rattle.sample_types.specs.Fields.{int32_field, value_records}

-- a tree has of its own a label, and the keys of its children
abbrev pub Own : Type 0
Own = ℤ × (List ℤ × Unit {0})

abbrev pub Grown : Type 0
Grown = MessageTree Own

-- its children by their keys, in order
abbrev pub Children : Type 0
Children = List (ℤ × Grown)

abbrev pub row : Children → TreeList Own
row [] = no_trees
row (e ∷ es) = first_tree e.1 (row es)

-- the tree of a label and children
abbrev pub grown : ℤ → Children → Grown
grown l es = message_tree (l, (keys_of es, tt)) (many (row es) no_inner)

-- ---- written
-- the entry of a child, where its encoding is given
abbrev pub child_entry : ℤ → List ℕ → List ℕ
child_entry k b = entry_encoding int32_writing (delimited_writing (λ (x : List ℕ). x)) (k, b)

-- the label, and then a record of field 2 for each child
abbrev pub tree_records : (Grown → List ℕ) → ℤ → Children → List (ℕ × FieldData)
tree_records encoding l es = value_records l ++ map (λ (e : ℤ × Grown). (2, bytes (child_entry e.0 (encoding e.1)))) es

-- for each child the capped length of its encoding, and then its own slots
abbrev pub tree_slots : (Grown → List ℕ) → (Grown → List ℕ) → Children → List ℕ
tree_slots encoding slots es = flat_map (λ (e : ℤ × Grown). cap (length (encoding e.1)) ∷ slots e.1) es

-- a child is one level deeper
abbrev pub tree_levels : (Grown → ℕ) → Children → ℕ
tree_levels levels [] = 0
tree_levels levels (e ∷ es) = max (suc (levels e.1)) (tree_levels levels es)

-- label and keys are int32, the keys ascend, and each child is P
pub record IsTreeOf (P : Grown → Type 0) (l : ℤ) (es : Children) : Type 0 where
  pub label : FitsSigned w32 l
  pub ascend : IsStrictlySortedBy int_cmp (keys_of es)
  pub children : AllByRecursion (λ (e : ℤ × Grown). FitsSigned w32 e.0 × P e.1) es

-- ---- read
-- what is read of a whole payload
abbrev pub whole_of : {A : Type 0} → Result (A × List ℕ) DecodeError → Option A
whole_of (Ok (a, [])) = Some a
whole_of (Ok (a, b ∷ bs)) = None
whole_of (Err e) = None

abbrev pub label_in : WireType → List ℕ → Option ℤ
label_in w p = if same_wire Varint w then whole_of (int32_at p) else None

-- where bytes make so much of a tree, and cost so much
module _ (merged : ℕ → Grown → List ℕ → Option Grown) (cost : ℕ → List ℕ → BudgetLeft) where
  -- a child is merged one level down
  abbrev pub child_reading : Reading Grown
  child_reading = message_reading (grown (pos 0) []) merged cost

  abbrev pub entry_by : ℕ → Option (List ℕ) → Option (MapEntry ℤ Grown)
  entry_by d None = None
  entry_by d (Some b) = value_of (entry_of int32_reading child_reading d b)

  abbrev pub tree_entry_in : ℕ → WireType → List ℕ → Option (MapEntry ℤ Grown)
  tree_entry_in d w p = if same_wire LengthDelimited w then entry_by d (whole_of (delimited_at p)) else None

  -- field 1 is the label, each field 2 puts a child at a key, others are passed over
  abbrev pub tree_takes : Taker (ℤ × Children)
  tree_takes d t n w p =
      if n == 1 then option_map (λ l. (l, t.1)) (label_in w p)
      else if n == 2 then option_map (λ s. (t.0, cond s.known (insert_entry int_cmp t.1 s.key s.value) t.1)) (tree_entry_in d w p)
      else Some t

  -- an entry costs 4 units for the key and 32 for the child, and what the child costs; nothing else costs any
  abbrev pub tree_charge : Charge
  tree_charge d n w bs =
      if n == 2 && same_wire LengthDelimited w then charge_by (delimited_at bs) (λ e. charge_of int32_reading child_reading d 36 e.0) else nothing

  -- why the field of a child is refused under a budget: it is of another wire type; or its entry has this fault. Memory runs out only
  -- where a field in the entry takes some, or the child is put. Which error refuses what is inside the child isn't said.
  abbrev pub HasChildFault : ℕ → WireType → List ℕ → BudgetLeft → DecodeError → Type 0
  HasChildFault d w bs left e =
      (check_wire 2 LengthDelimited w ≡ Err e)
      ⊎ ((w ≡ LengthDelimited) × (e ≢ OutOfMemory → EntryFault int32_reading child_reading d 36 0 left bs e)
      × (e ≡ OutOfMemory → (w ≡ LengthDelimited) × (b : List ℕ) × (rest : List ℕ) × (delimited_at bs ≡ Ok (b, rest))
      × (EntryFieldsTakeMemory int32_reading child_reading d b
      ⊎ ((s : MapEntry ℤ Grown) × IsEntry int32_reading child_reading d b s × (s.known ≡ true)))))

  -- why a field of a tree is refused
  pub record HasTreeFault (d n : ℕ) (w : WireType) (bs : List ℕ) (left : BudgetLeft) (e : DecodeError) : Type 0 where
    pub label : n ≡ 1 → int32_field 1 (λ l. l) w bs ≡ Err e
    pub child : n ≡ 2 → HasChildFault d w bs left e
    pub other : n ≢ 1 → n ≢ 2 → skip_at d n w bs ≡ Err e
