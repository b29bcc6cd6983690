-- Bytes make of a node, and cost, what the specs say.
use Rattle.std.proofs.Common.{◌≡◌, ℕ, ℤ, zero, suc, ◌+◌, ◌==◌, Bool, true, false, List, [], ◌++◌, Option, Some, None, refl, sym, ap, subst, ◌∙◌, arith, if◌then◌else◌}
use Rattle.std.specs.BTreeMap.{insert_entry}
use Rattle.std.specs.Option.{option_map}
use Rattle.std.specs.Ordering.{int_cmp}
use Rattle.buffa_bytes.specs.declared.wire_type.WireType.{WireType}
use Rattle.buffa_wire.proofs.ByPayloadLemmas.{ByPayload, by_payload}
use Rattle.buffa_wire.specs.Takes.{cost_of, merged_of}
use Rattle.buffa_map.specs.Scalars.{int32_reading}
use Rattle.buffa_wire.specs.BudgetLeft.{BudgetLeft, nothing}
use Rattle.buffa_wire.specs.KeptField.{keep_charge}
use Rattle.buffa_fields.specs.UnknownsOfMembers.{kept_among, kept_behind}
use Rattle.buffa_fields.specs.facts.ClosedEnumMapFacts.{kept_pair_behind}
use Rattle.buffa_fields.specs.UndeclaredFields.{keep_takes}
use Rattle.buffa_recursive.specs.MessageTree.{TreeList, head_many, message_tree}
use Rattle.buffa_recursive.specs.RecursiveSchema.{whole_takes}
use Rattle.buffa_fields.specs.MapFields.{pair_cost}
use Rattle.buffa_recursive.specs.facts.MapKindFacts.{pair_cost_alike, pair_taken_alike}
use Rattle.buffa_recursive.specs.MapShape.{reading_by}
use Rattle.buffa_recursive.specs.MapTree.{child_pairs, keys_in, pairs_in, values_in}
use Rattle.buffa_recursive.specs.facts.LayerFacts.{costs_alike, merged_alike}
use Rattle.buffa_recursive.specs.Fixpoint.{message_schema}
use Rattle.buffa_recursive.specs.facts.FixpointFacts.{blank_is, cost_by_is, cost_is, each_is, merged_by_is, merged_is}
use Rattle.sample_node.proofs.NodeSchemaLemmas.{members, members_sound, node_words}
use Rattle.sample_node.specs.Branch.{Branch, NodeKept, NodeOwn, Scores, Shades, blank_node, branch}
use Rattle.sample_node.specs.NodeMeaning.{LevelCost, LevelMeaning, children_cost, children_take, node_cost, node_field_charge, node_field_takes, node_merged, node_reading, scores_cost, scores_take, shade_reading, shades_cost, shades_take}

-- ---- a field, by what it makes of each member
module _ (a : Scores) (ks : List ℤ) (cs : TreeList NodeOwn) (h : Shades) (r : NodeKept) where
  abbrev Children : Type 0
  Children = List ℤ × TreeList NodeOwn

  abbrev Members : Type 0
  Members = Scores × (Children × (Shades × NodeKept))

  abbrev of_members : Option Members → Option Branch
  of_members o = option_map (λ (y : Members). branch y.0 y.1.0.0 y.1.0.1 y.1.1.0 y.1.1.1) o

  abbrev by_members : Bool → Bool → Bool → Option Scores → Option (List (ℤ × Branch)) → Option (Shades × NodeKept) → Option NodeKept → Option Branch
  by_members i j k scored es shaded kept =
      let third : Option (Shades × NodeKept) = if k then option_map (kept_among (λ v rs. v ++ rs) r) shaded else option_map (λ y. (h, y)) kept in
      let second : Option (Children × (Shades × NodeKept)) = if j then option_map (λ x. (x, (h, r))) (option_map pairs_in es) else option_map (λ y. ((ks, cs), y)) third in
      of_members (if i then option_map (λ x. (x, ((ks, cs), (h, r)))) scored else option_map (λ y. (a, y)) second)

  abbrev by_node : Bool → Bool → Bool → Option Scores → Option (List (ℤ × Branch)) → Option (Shades × NodeKept) → Option NodeKept → Option Branch
  by_node i j k scored es shaded kept =
      if i then option_map (λ b. branch b ks cs h r) scored
      else if j then option_map (λ es. branch a (keys_in es) (values_in es) h r) es
      else if k then option_map (λ x. branch a ks cs x.0 x.1) shaded
      else option_map (λ s. branch a ks cs h s) kept

  one_field : (i j k : Bool) (scored : Option Scores) (es : Option (List (ℤ × Branch))) (shaded : Option (Shades × NodeKept)) (kept : Option NodeKept) → by_members i j k scored es shaded kept ≡ by_node i j k scored es (option_map (kept_behind r) shaded) kept
  one_field true j k None es shaded kept = refl
  one_field true j k (Some x) es shaded kept = refl
  one_field false true k scored None shaded kept = refl
  one_field false true k scored (Some x) shaded kept = refl
  one_field false false true scored es None kept = refl
  one_field false false true scored es (Some x) kept = refl
  one_field false false false scored es shaded None = refl
  one_field false false false scored es shaded (Some x) = refl

-- ---- all fields, where the level below makes this of nodes
module _ (m : LevelMeaning) (d : ℕ) (means_so : (e : ℕ) → suc e ≡ d → node_words.merged e ≡ m) where
  abbrev below : (node_words.blank ≡ blank_node) × ((e : ℕ) → suc e ≡ d → node_words.merged e ≡ m)
  below = (blank_is 96 members members_sound, means_so)

  field_same : (t : Branch) (n : ℕ) (w : WireType) (p : List ℕ) → whole_takes members node_words d t n w p ≡ node_field_takes m d t n w p
  field_same (message_tree (a, (ks, (h, r))) ss) n w p =
      let cs = head_many ss in
      let one = scores_take d a n w p in
      let three = shades_take d (h, []) n w p in
      let other = keep_takes d r n w p in
      (λ i. by_members a ks cs h r (n == 1) (n == 2) (n == 3) one (pair_taken_alike int32_reading node_words.blank blank_node node_words.merged (λ _. m) node_words.cost (λ _ _. nothing) d below (insert_entry int_cmp) i (child_pairs ks cs) n w p) three other)
      ∙ one_field a ks cs h r (n == 1) (n == 2) (n == 3) one (children_take m d (child_pairs ks cs) n w p) three other
      ∙ ap (λ z. by_node a ks cs h r (n == 1) (n == 2) (n == 3) one (children_take m d (child_pairs ks cs) n w p) z other) (sym (kept_pair_behind int32_reading shade_reading (insert_entry int_cmp) d h r n w p))

  level_merged : node_words.merged d ≡ merged_of (node_field_takes m) d
  level_merged = merged_is 96 members members_sound d ∙ merged_alike (whole_takes members node_words) (node_field_takes m) d (λ i t n w p. field_same t n w p i)

  -- and costs this
  module _ (c : LevelCost) (costs_so : (e : ℕ) → suc e ≡ d → node_words.cost e ≡ c) where
    child_paid : pair_cost int32_reading (reading_by node_words) (4 + node_words.each) d ≡ children_cost m c d
    child_paid =
        pair_cost_alike int32_reading node_words.blank blank_node node_words.merged (λ _. m) node_words.cost (λ _. c) d below costs_so (4 + node_words.each)
        ∙ ap (λ k. pair_cost int32_reading (node_reading m c) (4 + k) d) (each_is 96 members members_sound)

    field_paid : (message_schema 96 members members_sound).charge d ≡ node_field_charge m c d
    field_paid = λ i n w bs. if n == 1 then scores_cost d n w bs else if n == 2 then child_paid i n w bs else if n == 3 then shades_cost d n w bs else keep_charge d n w bs

    level_paid : node_words.cost d ≡ cost_of (node_field_charge m c) d
    level_paid = cost_is 96 members members_sound d ∙ costs_alike (message_schema 96 members members_sound).charge (node_field_charge m c) d field_paid

-- ---- at each depth
none_below : (e : ℕ) → suc e ≡ zero → ⊥
none_below e is = omega (arith, is)

next_below : {A : Type 0} (f g : ℕ → A) (d : ℕ) → f d ≡ g d → (e : ℕ) → suc e ≡ suc d → f e ≡ g d
next_below f g d same e is = let level : e ≡ d = omega (arith, is) in ap f level ∙ same

merged_same : (d : ℕ) → node_words.merged d ≡ node_merged d
merged_same zero = level_merged (λ _ _. None) zero (λ e is. absurd (none_below e is))
merged_same (suc d) = level_merged (node_merged d) (suc d) (next_below node_words.merged node_merged d (merged_same d))

cost_same : (d : ℕ) → node_words.cost d ≡ node_cost d
cost_same zero = level_paid (λ _ _. None) zero (λ e is. absurd (none_below e is)) (λ _. nothing) (λ e is. absurd (none_below e is))
cost_same (suc d) = level_paid (node_merged d) (suc d) (next_below node_words.merged node_merged d (merged_same d)) (node_cost d) (next_below node_words.cost node_cost d (cost_same d))

-- as functions
pub node_merged_is : node_words.merged ≡ node_merged
node_merged_is = λ i d. merged_same d i

pub node_cost_is : node_words.cost ≡ node_cost
node_cost_is = λ i d. cost_same d i

-- what holds by the words that are told holds by those of the specs
pub in_node_words : (P : (ℕ → Branch → List ℕ → Option Branch) → (ℕ → List ℕ → BudgetLeft) → Type 0) → P node_words.merged node_words.cost → P node_merged node_cost
in_node_words P h = subst (λ m. P m node_cost) node_merged_is (subst (λ c. P node_words.merged c) node_cost_is h)

-- ---- all bytes mean, and cost, what payloads do
pub node_by_payloads : ByPayload (whole_takes members node_words) (message_schema 96 members members_sound).charge node_merged node_cost
node_by_payloads =
    let all = message_schema 96 members members_sound in
    in_node_words (λ m c. ByPayload (whole_takes members node_words) all.charge m c) (by_payload all.stays (merged_by_is 96 members members_sound) (cost_by_is 96 members members_sound))
