-- The encoding, the records, the slots and the levels of a node, and which nodes their encoding reads back to: each by the same of
-- its children, which stand in its first slot in the order of its keys.
-- Source: the protobuf encoding guide, "Maps" and "Submessages".
use Rattle.std.specs.Prelude.{◌≡◌, ◌<◌, ◌⊎◌, ℕ, suc, ℤ, FitsSigned, max, List, [], ◌∷◌, ◌++◌, length, Result}
use Rattle.std.specs.Int.{w32}
use Rattle.std.specs.List.{AllByRecursion}
use Rattle.std.specs.List.Sorted.{IsStrictlySortedBy}
use Rattle.std.specs.Map.{keys_of}
use Rattle.std.specs.Ordering.{int_cmp}
use Rattle.buffa_bytes.specs.declared.error.EncodeError.{EncodeError}
use Rattle.buffa_wire.specs.Cache.{Cache}
use Rattle.buffa_wire.specs.Parse.{AreValid}
use Rattle.buffa_wire.specs.Passes.{IsWritten, cap}
use Rattle.buffa_wire.specs.Records.{FieldData, bytes, height, records_of}
use Rattle.buffa_wire.specs.Encoding.{records_encoding}
use Rattle.buffa_map.specs.Enums.{ClosedFits, closed_writing}
use Rattle.buffa_map.specs.Scalars.{IsText, delimited_writing, int32_reading, int32_writing, text_writing}
use Rattle.buffa_map.specs.Encoding.{AllHold, entry_encoding, field_encoding, record_encoding}
use Rattle.buffa_fields.specs.UnknownsOfMembers.{unknowns_levels}
use Rattle.buffa_fields.specs.ClosedEnumMaps.{IsUnknownEntry, unknown_entry_levels}
use Rattle.buffa_fields.specs.MapFields.{map_records}
use Rattle.buffa_recursive.specs.MessageTree.{TreeList, InnerMembers, head_many, first_tree, message_tree, many, no_trees}
use Rattle.sample_node.specs.Branch.{Branch, NodeKept, NodeOwn, Scores, Shades, branch, shade_numbers}
use Rattle.sample_node.specs.NodeMeaning.{shade_reading, text_cmp}

abbrev pub scores_encoding : Scores → List ℕ
scores_encoding a = field_encoding text_writing int32_writing 1 a

abbrev pub shades_encoding : Shades → List ℕ
shades_encoding h = field_encoding int32_writing closed_writing 3 h

-- a child's entry, where its encoding is given
abbrev pub node_entry : ℤ → List ℕ → List ℕ
node_entry k t = entry_encoding int32_writing (delimited_writing (λ (x : List ℕ). x)) (k, t)

abbrev pub node_entry_record : ℤ → List ℕ → List ℕ
node_entry_record k t = record_encoding int32_writing (delimited_writing (λ (x : List ℕ). x)) 2 (k, t)

-- a record for each score, child and shade, and then what is kept
abbrev mutual
  pub node_encoding : Branch → List ℕ
  node_encoding (message_tree (a, (ks, (h, r))) ss) = scores_encoding a ++ (children_encoding ks ss ++ (shades_encoding h ++ records_encoding r))

  pub children_encoding : List ℤ → InnerMembers NodeOwn → List ℕ
  children_encoding ks (many cs ss) = nodes_encoding ks cs
  children_encoding ks _ = []

  pub nodes_encoding : List ℤ → TreeList NodeOwn → List ℕ
  nodes_encoding (k ∷ ks) (first_tree t cs) = node_entry_record k (node_encoding t) ++ nodes_encoding ks cs
  nodes_encoding _ _ = []

-- for each child the capped length of its encoding, and then its own slots
abbrev mutual
  pub node_slots : Branch → List ℕ
  node_slots (message_tree (a, (ks, (h, r))) ss) = children_slots ks ss

  pub children_slots : List ℤ → InnerMembers NodeOwn → List ℕ
  children_slots ks (many cs ss) = nodes_slots ks cs
  children_slots ks _ = []

  pub nodes_slots : List ℤ → TreeList NodeOwn → List ℕ
  nodes_slots (k ∷ ks) (first_tree t cs) = cap (length (node_encoding t)) ∷ node_slots t ++ nodes_slots ks cs
  nodes_slots _ _ = []

-- a node was written, or refused, by a pass that takes its slots out of a cache
abbrev pub IsNodeWritten : {T : Type 0} → Branch → Cache → List ℕ → Result T EncodeError → Cache → List ℕ → Type 0
IsNodeWritten t old before r new after = IsWritten (node_encoding t) (node_slots t) old before r new after

-- the records
abbrev pub nodes_records : List ℤ → TreeList NodeOwn → List (ℕ × FieldData)
nodes_records (k ∷ ks) (first_tree t cs) = (2, bytes (node_entry k (node_encoding t))) ∷ nodes_records ks cs
nodes_records _ _ = []

abbrev pub node_records : Branch → List (ℕ × FieldData)
node_records (message_tree (a, (ks, (h, r))) ss) =
    map_records text_writing int32_writing 1 a ++ (nodes_records ks (head_many ss) ++ (map_records int32_writing closed_writing 3 h ++ r))

-- how deep groups nest in what is kept, those in the entries of shades too
abbrev pub kept_levels : NodeKept → ℕ
kept_levels r = max (height r) (unknowns_levels 3 (unknown_entry_levels int32_reading shade_reading) r)

-- how deep messages and groups nest
abbrev mutual
  pub node_levels : Branch → ℕ
  node_levels (message_tree (a, (ks, (h, r))) ss) = max (children_levels ks ss) (kept_levels r)

  pub children_levels : List ℤ → InnerMembers NodeOwn → ℕ
  children_levels ks (many cs ss) = nodes_levels ks cs
  children_levels ks _ = 0

  pub nodes_levels : List ℤ → TreeList NodeOwn → ℕ
  nodes_levels (k ∷ ks) (first_tree t cs) = max (suc (node_levels t)) (nodes_levels ks cs)
  nodes_levels _ _ = 0

-- what a node keeps of bytes: a field of a number that it doesn't declare, valid as those in its groups are, or an entry with an
-- undeclared shade
abbrev pub IsKept : ℕ × FieldData → Type 0
IsKept y = ((3 < y.0) × AreValid (records_of (y ∷ []))) ⊎ ((y.0 ≡ 3) × IsUnknownEntry int32_reading shade_reading y.1)

-- of all but the children: keys and values are of their types, shades are declared, keys ascend
abbrev pub IsNormalOwn : Scores → Shades → NodeKept → Type 0
IsNormalOwn a h r =
    (AllHold IsText (FitsSigned w32) a × IsStrictlySortedBy text_cmp (keys_of a))
    × (AllHold (FitsSigned w32) (ClosedFits shade_numbers) h × IsStrictlySortedBy int_cmp (keys_of h))
    × AllByRecursion IsKept r

-- the nodes that their encoding reads back to: they have as many keys as children, and nothing behind these; the keys are int32 and
-- ascend, and the children are such nodes
abbrev mutual
  pub IsNormalNode : Branch → Type 0
  IsNormalNode (branch a ks cs h r) = IsNormalOwn a h r × IsStrictlySortedBy int_cmp ks × AreNormalNodes ks cs
  IsNormalNode _ = ⊥

  pub AreNormalNodes : List ℤ → TreeList NodeOwn → Type 0
  AreNormalNodes [] no_trees = Unit {0}
  AreNormalNodes (k ∷ ks) (first_tree t cs) = FitsSigned w32 k × IsNormalNode t × AreNormalNodes ks cs
  AreNormalNodes _ _ = ⊥
