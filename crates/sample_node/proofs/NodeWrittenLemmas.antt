-- A node's records, encoding, slots and levels are those of the specs.
use Rattle.std.proofs.Common.{◌≡◌, ◌^◌, ◌<◌, ℕ, ℤ, suc, max, List, [], ◌∷◌, ◌++◌, length, length-append, refl, sym, ap, ◌∙◌, append-nil, arith}
use Rattle.std.specs.Int.{cast_unsigned, w64}
use Rattle.buffa_bytes.specs.Values.{delimited_encoding, tag_encoding}
use Rattle.buffa_bytes.specs.Varint.{varint_encoding}
use Rattle.buffa_bytes.specs.declared.wire_type.WireType.TheVariants.{LengthDelimited, Varint}
use Rattle.buffa_wire.proofs.EncodingLemmas.{records_encoding-append}
use Rattle.buffa_wire.proofs.ParseLemmas.{short_fits}
use Rattle.buffa_wire.specs.Encoding.{records_encoding}
use Rattle.buffa_wire.specs.Parse.{Fits}
use Rattle.buffa_wire.specs.Passes.{cap}
use Rattle.buffa_wire.specs.Records.{bytes, records_of}
use Rattle.buffa_map.specs.Enums.{closed_writing}
use Rattle.buffa_map.specs.Scalars.{int32_writing, text_writing}
use Rattle.buffa_recursive.specs.MessageTree.{TreeList, InnerMembers, head_many, first_tree, message_tree, many, no_trees, no_inner, one}
use Rattle.buffa_fields.specs.facts.MapFacts.{map_encoding}
use Rattle.buffa_fields.specs.MapFields.{entry_records, map_records}
use Rattle.buffa_fields.specs.MapsOfMessages.{pair_levels, pair_records, pair_slots}
use Rattle.buffa_recursive.specs.MapTree.{child_pairs}
use Rattle.buffa_recursive.specs.facts.FixpointFacts.{levels_are, records_are, slots_are}
use Rattle.buffa_recursive.specs.InnerMessages.{encoding_by}
use Rattle.sample_node.proofs.NodeSchemaLemmas.{members, members_sound, node_words}
use Rattle.sample_node.specs.Branch.{Branch, NodeKept, NodeOwn, Scores, Shades}
use Rattle.sample_node.specs.NodeEncoding.{children_encoding, children_levels, children_slots, kept_levels, node_encoding, node_entry, node_entry_record, node_levels, node_records, node_slots, nodes_encoding, nodes_levels, nodes_records, nodes_slots, shades_encoding}

-- ---- the encoding is that of records
no_records : (ks : List ℤ) → nodes_records ks no_trees ≡ []
no_records [] = refl
no_records (k ∷ ks) = refl

nodes_encoding_records : (ks : List ℤ) (cs : TreeList NodeOwn) → nodes_encoding ks cs ≡ records_encoding (nodes_records ks cs)
nodes_encoding_records [] cs = refl
nodes_encoding_records (k ∷ ks) no_trees = refl
nodes_encoding_records (k ∷ ks) (first_tree t cs) = ap (λ (z : List ℕ). node_entry_record k (node_encoding t) ++ z) (nodes_encoding_records ks cs)

children_encoding_records : (ks : List ℤ) (ss : InnerMembers NodeOwn) → children_encoding ks ss ≡ records_encoding (nodes_records ks (head_many ss))
children_encoding_records ks (many cs ss) = nodes_encoding_records ks cs
children_encoding_records ks no_inner = ap records_encoding (sym (no_records ks))
children_encoding_records ks (one m ss) = ap records_encoding (sym (no_records ks))

pub node_encoding_records : (t : Branch) → node_encoding t ≡ records_encoding (node_records t)
node_encoding_records (message_tree (a, (ks, (h, r))) ss) =
    let first = map_records text_writing int32_writing 1 a in
    let second = nodes_records ks (head_many ss) in
    let third = map_records int32_writing closed_writing 3 h in
    let end : shades_encoding h ++ records_encoding r ≡ records_encoding (third ++ r) = ap (λ (z : List ℕ). z ++ records_encoding r) (sym (map_encoding int32_writing closed_writing 3 h)) ∙ sym (records_encoding-append third r) in
    let mid : children_encoding ks ss ++ (shades_encoding h ++ records_encoding r) ≡ records_encoding (second ++ (third ++ r)) = (λ i. children_encoding_records ks ss i ++ end i) ∙ sym (records_encoding-append second (third ++ r)) in
    (λ i. sym (map_encoding text_writing int32_writing 1 a) i ++ mid i) ∙ sym (records_encoding-append first (second ++ (third ++ r)))

-- ---- no record is too long to be read where the encoding isn't; and a child's encoding is shorter than the record that holds it
pub child_shorter : (k : ℤ) (b : List ℕ) → length (node_entry k b) < 2 ^ 64 → length b < 2 ^ 64
child_shorter k b h = omega (arith, h, length-append (tag_encoding 1 Varint ++ varint_encoding (cast_unsigned w64 k)) (tag_encoding 2 LengthDelimited ++ delimited_encoding b), length-append (tag_encoding 2 LengthDelimited) (delimited_encoding b), length-append (varint_encoding (length b)) b)

pub short_encoding : (t : Branch) → length (node_encoding t) < 2 ^ 64 → Fits (records_of (node_records t))
short_encoding t short = short_fits (records_of (node_records t)) (omega (arith, short, ap length (node_encoding_records t)))

-- ---- what the members say of a node, by its children
module _ (a : Scores) (ks : List ℤ) (h : Shades) (r : NodeKept) (ss : InnerMembers NodeOwn) where
  abbrev node : Branch
  node = message_tree (a, (ks, (h, r))) ss

  by_records : node_words.records node ≡ map_records text_writing int32_writing 1 a ++ (pair_records int32_writing (encoding_by node_words) 2 (child_pairs ks (head_many ss)) ++ (map_records int32_writing closed_writing 3 h ++ r))
  unfolding entry_records
  by_records = records_are 96 members members_sound node

  by_slots : node_words.slots node ≡ pair_slots (encoding_by node_words) node_words.slots (child_pairs ks (head_many ss))
  by_slots = slots_are 96 members members_sound node ∙ append-nil (pair_slots (encoding_by node_words) node_words.slots (child_pairs ks (head_many ss)))

  by_levels : node_words.levels node ≡ max (pair_levels node_words.levels (child_pairs ks (head_many ss))) (kept_levels r)
  by_levels = levels_are 96 members members_sound node ∙ omega arith

-- ---- they say of it what the specs do, and of its children
abbrev SameNode : Branch → Type 0
SameNode t = (node_words.records t ≡ node_records t) × (node_words.slots t ≡ node_slots t) × (node_words.levels t ≡ node_levels t)

abbrev SameNodes : List ℤ → TreeList NodeOwn → Type 0
SameNodes ks cs =
    let es = child_pairs ks cs in
    (pair_records int32_writing (encoding_by node_words) 2 es ≡ nodes_records ks cs) × (pair_slots (encoding_by node_words) node_words.slots es ≡ nodes_slots ks cs) × (pair_levels node_words.levels es ≡ nodes_levels ks cs)

abbrev SameChildren : List ℤ → InnerMembers NodeOwn → Type 0
SameChildren ks ss =
    let es = child_pairs ks (head_many ss) in
    (pair_records int32_writing (encoding_by node_words) 2 es ≡ nodes_records ks (head_many ss)) × (pair_slots (encoding_by node_words) node_words.slots es ≡ children_slots ks ss) × (pair_levels node_words.levels es ≡ children_levels ks ss)

no_children : (ks : List ℤ) → (pair_records int32_writing (encoding_by node_words) 2 (child_pairs ks no_trees) ≡ nodes_records ks no_trees) × (pair_slots (encoding_by node_words) node_words.slots (child_pairs ks no_trees) ≡ []) × (pair_levels node_words.levels (child_pairs ks no_trees) ≡ 0)
unfolding pair_records pair_slots
no_children [] = (refl, refl, refl)
no_children (k ∷ ks) = (refl, refl, refl)

mutual
  unfolding pair_records pair_slots

  same_node : (t : Branch) → SameNode t
  same_node (message_tree (a, (ks, (h, r))) ss) =
      let inside = same_children ks ss in (
        by_records a ks h r ss ∙ (λ i. map_records text_writing int32_writing 1 a ++ (inside.0 i ++ (map_records int32_writing closed_writing 3 h ++ r))),
        by_slots a ks h r ss ∙ inside.1,
        by_levels a ks h r ss ∙ (λ i. max (inside.2 i) (kept_levels r)),
      )

  same_children : (ks : List ℤ) (ss : InnerMembers NodeOwn) → SameChildren ks ss
  same_children ks (many cs ss) = same_nodes ks cs
  same_children ks no_inner = no_children ks
  same_children ks (one m ss) = no_children ks

  same_nodes : (ks : List ℤ) (cs : TreeList NodeOwn) → SameNodes ks cs
  same_nodes [] cs = (refl, refl, refl)
  same_nodes (k ∷ ks) no_trees = (refl, refl, refl)
  same_nodes (k ∷ ks) (first_tree t cs) =
      let first = same_node t in
      let others = same_nodes ks cs in
      let encoding = ap records_encoding first.0 ∙ sym (node_encoding_records t) in
      ((λ i. (2, bytes (node_entry k (encoding i))) ∷ others.0 i), (λ i. cap (length (encoding i)) ∷ first.1 i ++ others.1 i), (λ i. max (suc (first.2 i)) (others.2 i)))

pub records_same : (t : Branch) → node_words.records t ≡ node_records t
records_same t = (same_node t).0

pub encoding_same : (t : Branch) → encoding_by node_words t ≡ node_encoding t
encoding_same t = ap records_encoding (records_same t) ∙ sym (node_encoding_records t)

pub slots_same : (t : Branch) → node_words.slots t ≡ node_slots t
slots_same t = (same_node t).1

pub levels_same : (t : Branch) → node_words.levels t ≡ node_levels t
levels_same t = (same_node t).2
