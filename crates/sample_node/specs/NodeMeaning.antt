-- What bytes mean to a node: field 1 puts a score, field 2 a child, field 3 a shade, or keeps its entry under 3 where the
-- shade is undeclared; every other field is kept. A child is read one level deeper, so the depth bounds the steps.
-- Source: the protobuf encoding guide, "Maps"; the protobuf language guide, "Enumerations".
use Rattle.std.specs.Prelude.{ℕ, zero, suc, ℤ, ◌==◌, List, Option, None, if◌then◌else◌}
use Rattle.std.specs.BTreeMap.{insert_entry}
use Rattle.std.specs.Cmp.Lexicographic.{slice_cmp}
use Rattle.std.specs.Option.{option_map}
use Rattle.std.specs.Ordering.{int_cmp, nat_cmp}
use Rattle.std.specs.declared.cmp.Ordering.{Ordering}
use Rattle.buffa_wire.specs.BudgetLeft.{BudgetLeft, nothing}
use Rattle.buffa_map.specs.Codec.{Reading}
use Rattle.buffa_map.specs.Enums.{closed_reading}
use Rattle.buffa_map.specs.Message.{message_reading}
use Rattle.buffa_map.specs.Scalars.{int32_reading, text_reading}
use Rattle.buffa_wire.specs.KeptField.{keep_charge}
use Rattle.buffa_fields.specs.UndeclaredFields.{keep_takes}
use Rattle.buffa_wire.specs.Takes.{Charge, Taker, cost_of, merged_of}
use Rattle.buffa_fields.specs.ClosedEnumMaps.{kept_pair_cost, kept_pair_taken}
use Rattle.buffa_fields.specs.MapFields.{pair_cost, pair_taken}
use Rattle.buffa_recursive.specs.MapTree.{child_pairs, keys_in, values_in}
use Rattle.buffa_recursive.specs.MessageTree.{head_many, message_tree}
use Rattle.sample_node.specs.Branch.{Branch, NodeKept, Scores, Shades, blank_node, branch, shade_numbers}

-- texts are in the order of their bytes
abbrev pub text_cmp : List ℕ → List ℕ → Ordering
text_cmp = slice_cmp nat_cmp

-- how shades are read
abbrev pub shade_reading : Reading ℤ
shade_reading = closed_reading shade_numbers

-- field 1
abbrev pub scores_take : Taker Scores
scores_take = pair_taken text_reading int32_reading (insert_entry text_cmp)

abbrev pub scores_cost : Charge
scores_cost = pair_cost text_reading int32_reading 28

-- field 2: what a level below makes of a node, what it costs there, and so how a node is read
abbrev pub LevelMeaning : Type 0
LevelMeaning = Branch → List ℕ → Option Branch

abbrev pub LevelCost : Type 0
LevelCost = List ℕ → BudgetLeft

abbrev pub node_reading : LevelMeaning → LevelCost → Reading Branch
node_reading m c = message_reading blank_node (λ _. m) (λ _. c)

abbrev pub children_take : LevelMeaning → Taker (List (ℤ × Branch))
children_take m = pair_taken int32_reading (node_reading m (λ _. nothing)) (insert_entry int_cmp)

abbrev pub children_cost : LevelMeaning → LevelCost → Charge
children_cost m c = pair_cost int32_reading (node_reading m c) 100

-- field 3, and what is kept beside it: an entry with an undeclared shade, byte for byte, which costs an unknown field besides
abbrev pub shades_take : Taker (Shades × NodeKept)
shades_take = kept_pair_taken int32_reading shade_reading (insert_entry int_cmp)

abbrev pub shades_cost : Charge
shades_cost = kept_pair_cost int32_reading shade_reading 8

-- what a field makes of a node, by what a level below does
abbrev pub node_field_takes : LevelMeaning → Taker Branch
node_field_takes m d (message_tree (a, (ks, (h, r))) ss) n w p = let cs = head_many ss in
    if n == 1 then option_map (λ b. branch b ks cs h r) (scores_take d a n w p)
    else if n == 2 then option_map (λ es. branch a (keys_in es) (values_in es) h r) (children_take m d (child_pairs ks cs) n w p)
    else if n == 3 then option_map (λ x. branch a ks cs x.0 x.1) (shades_take d (h, r) n w p)
    else option_map (λ s. branch a ks cs h s) (keep_takes d r n w p)

-- and what it costs
abbrev pub node_field_charge : LevelMeaning → LevelCost → Charge
node_field_charge m c d n w bs =
    if n == 1 then scores_cost d n w bs
    else if n == 2 then children_cost m c d n w bs
    else if n == 3 then shades_cost d n w bs
    else keep_charge d n w bs

-- what bytes make of a node where so many levels may still open, and what they cost
abbrev pub node_merged : ℕ → Branch → List ℕ → Option Branch
node_merged zero v bs = merged_of (node_field_takes (λ _ _. None)) zero v bs
node_merged (suc d) v bs = merged_of (node_field_takes (node_merged d)) (suc d) v bs

abbrev pub node_cost : ℕ → List ℕ → BudgetLeft
node_cost zero bs = cost_of (node_field_charge (λ _ _. None) (λ _. nothing)) zero bs
node_cost (suc d) bs = cost_of (node_field_charge (node_merged d) (node_cost d)) (suc d) bs
