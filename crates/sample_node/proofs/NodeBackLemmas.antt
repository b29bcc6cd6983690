-- The nodes that their encoding reads back to are the normal ones, where the records of a node fit.
use Rattle.std.proofs.Common.{◌≡◌, inl, inr, ◌↔◌, ◌⊎◌, ℕ, ℤ, ◌==◌, Bool, true, false, not, FitsSigned, List, [], ◌∷◌, ◌++◌, refl, sym, ap, subst, ◌∙◌, arith}
use Rattle.std.proofs.lemmas.Bool.{eq-eqb, eqb-false, eqb-true, ne_eqb}
use Rattle.std.specs.Int.{w32}
use Rattle.std.specs.List.{AllByRecursion}
use Rattle.std.specs.List.Sorted.{IsStrictlySortedBy}
use Rattle.std.specs.Map.{keys_of}
use Rattle.std.specs.Ordering.{int_cmp}
use Rattle.buffa_wire.specs.Parse.{AreValid, Fits, IsValidFieldData}
use Rattle.buffa_wire.specs.Records.{FieldData, records_of}
use Rattle.buffa_map.specs.Encoding.{AllHold}
use Rattle.buffa_map.specs.Enums.{ClosedFits, closed_writing}
use Rattle.buffa_map.specs.Scalars.{IsText, int32_reading, int32_writing, text_writing}
use Rattle.buffa_fields.specs.UnknownsOfMembers.{AllUnknowns}
use Rattle.buffa_fields.specs.UndeclaredFields.{AllNumbers}
use Rattle.buffa_fields.specs.ClosedEnumMaps.{IsUnknownEntry}
use Rattle.buffa_recursive.specs.MessageTree.{TreeList, first_tree, message_tree, no_trees}
use Rattle.buffa_fields.specs.Schema.{Choice}
use Rattle.buffa_fields.specs.MapFields.{map_records}
use Rattle.buffa_fields.specs.Submessages.{FitsInside}
use Rattle.buffa_fields.specs.facts.FieldAndOthersFacts.{fits_both}
use Rattle.buffa_recursive.specs.MapTree.{child_pairs, keys_in, pairs_in, values_in}
use Rattle.buffa_recursive.specs.facts.FixpointFacts.{is_normal, normal_is}
use Rattle.sample_node.proofs.NodeSchemaLemmas.{AreNormalScores, AreNormalShades, members, members_owe, members_sound, node_keys, node_words}
use Rattle.sample_node.proofs.NodeWrittenLemmas.{child_shorter, records_same, short_encoding}
use Rattle.sample_node.specs.Branch.{Branch, NodeKept, NodeOwn, Scores, Shades, branch, shade_numbers}
use Rattle.sample_node.specs.NodeEncoding.{AreNormalNodes, IsKept, IsNormalNode, IsNormalOwn, node_encoding, node_records, nodes_records}
use Rattle.sample_node.specs.NodeMeaning.{shade_reading}

-- ---- pairs
all_as : {K V : Type 0} (P R : K → Type 0) (Q S : V → Type 0) → ((k : K) → P k → R k) → ((v : V) → Q v → S v) → (l : List (K × V)) → AllHold P Q l → AllHold R S l
all_as P R Q S keys values [] h = tt
all_as P R Q S keys values (p ∷ ps) h = (keys p.0 h.0, values p.1 h.1, all_as P R Q S keys values ps h.2)

abbrev Plus : {K : Type 0} → (K → Type 0) → K → Type 0
Plus P k = P k × Unit {0}

bare : {K V : Type 0} (P : K → Type 0) (Q : V → Type 0) (l : List (K × V)) → AllHold (Plus P) (Plus Q) l → AllHold P Q l
bare P Q l h = all_as (Plus P) P (Plus Q) Q (λ k x. x.0) (λ v x. x.0) l h

plus : {K V : Type 0} (P : K → Type 0) (Q : V → Type 0) (l : List (K × V)) → AllHold P Q l → AllHold (Plus P) (Plus Q) l
plus P Q l h = all_as P (Plus P) Q (Plus Q) (λ k x. (x, tt)) (λ v x. (x, tt)) l h

-- ---- what is kept
abbrev IsUnknownShade : FieldData → Type 0
IsUnknownShade = IsUnknownEntry int32_reading shade_reading

abbrev NoNumber : ℕ → NodeKept → Type 0
NoNumber k r = AllNumbers (λ n. not (n == k)) r

is_false : (b : Bool) → not b ≡ true → b ≡ false
is_false true h = cc
is_false false h = refl

kept_here : (y : ℕ × FieldData) → AreValid (records_of (y ∷ [])) → not (y.0 == 1) ≡ true → not (y.0 == 2) ≡ true → (t : Bool) → (y.0 == 3) ≡ t → Choice t (IsUnknownShade y.1) (Unit {0}) → IsKept y
kept_here y valid one two true is unknowns = inr (eqb-true y.0 3 is, unknowns)
kept_here y valid one two false is unknowns = inl (omega (arith, valid.0, eqb-false y.0 1 (is_false (y.0 == 1) one), eqb-false y.0 2 (is_false (y.0 == 2) two), eqb-false y.0 3 is), valid)

are_kept : (r : NodeKept) → AreValid (records_of r) → NoNumber 1 r → NoNumber 2 r → AllUnknowns 3 IsUnknownShade r → AllByRecursion IsKept r
are_kept [] valid one two unknowns = tt
are_kept (y ∷ ys) valid one two unknowns = (kept_here y (valid.0, valid.1, tt) one.0 two.0 (y.0 == 3) refl unknowns.0, are_kept ys valid.2 one.1 two.1 unknowns.1)

other_number : (k : ℕ) → (k ≡ 1) ⊎ (k ≡ 2) → (y : ℕ × FieldData) → IsKept y → not (y.0 == k) ≡ true
other_number k low y (inl (high, fits)) = rw (ne_eqb y.0 k (λ e. elim low [ inl is ↦ absurd (omega (arith, high, e, is)) | inr is ↦ absurd (omega (arith, high, e, is)) ])) refl
other_number k low y (inr (three, unknowns)) = rw (ne_eqb y.0 k (λ e. elim low [ inl is ↦ absurd (omega (arith, three, e, is)) | inr is ↦ absurd (omega (arith, three, e, is)) ])) refl

other_numbers : (k : ℕ) → (k ≡ 1) ⊎ (k ≡ 2) → (r : NodeKept) → AllByRecursion IsKept r → NoNumber k r
other_numbers k low [] h = tt
other_numbers k low (y ∷ ys) h = (other_number k low y h.0, other_numbers k low ys h.1)

unknowns_here : (y : ℕ × FieldData) → IsKept y → Choice (y.0 == 3) (IsUnknownShade y.1) (Unit {0})
unknowns_here y (inl (high, fits)) = rw (ne_eqb y.0 3 (λ e. absurd (omega (arith, high, e)))) tt
unknowns_here y (inr (three, unknowns)) = rw (eq-eqb y.0 3 three) unknowns

are_unknowns : (r : NodeKept) → AllByRecursion IsKept r → AllUnknowns 3 IsUnknownShade r
are_unknowns [] h = tt
are_unknowns (y ∷ ys) h = (unknowns_here y h.0, are_unknowns ys h.1)

valid_here : (y : ℕ × FieldData) → IsKept y → AreValid (records_of (y ∷ []))
valid_here y (inl (high, valid)) = valid
valid_here y (inr (three, (e, is, undeclared))) = ((omega (arith, three), omega (arith, three)), subst IsValidFieldData (sym is) tt, tt)

are_valid : (r : NodeKept) → AllByRecursion IsKept r → AreValid (records_of r)
are_valid [] h = tt
are_valid (y ∷ ys) h = let here = valid_here y h.0 in (here.0, here.1, are_valid ys h.1)

-- ---- keys and children side by side
abbrev pub ArePaired : List ℤ → TreeList NodeOwn → Type 0
ArePaired ks cs = pairs_in (child_pairs ks cs) ≡ (ks, cs)

pub are_paired : (ks : List ℤ) (cs : TreeList NodeOwn) → AreNormalNodes ks cs → ArePaired ks cs
are_paired [] no_trees n = refl
are_paired (k ∷ ks) (first_tree t cs) n = ap (λ (x : List ℤ × TreeList NodeOwn). (k ∷ x.0, first_tree t x.1)) (are_paired ks cs n.2)
are_paired _ _ n = absurd n

abbrev AreAsMany : List ℤ → TreeList NodeOwn → Type 0
AreAsMany [] no_trees = Unit {0}
AreAsMany (k ∷ ks) (first_tree t cs) = AreAsMany ks cs
AreAsMany _ _ = ⊥

pairs_as_many : (es : List (ℤ × Branch)) → AreAsMany (keys_in es) (values_in es)
pairs_as_many [] = tt
pairs_as_many (e ∷ es) = pairs_as_many es

are_as_many : (ks : List ℤ) (cs : TreeList NodeOwn) → ArePaired ks cs → AreAsMany ks cs
are_as_many ks cs is = subst (λ (x : List ℤ × TreeList NodeOwn). AreAsMany x.0 x.1) is (pairs_as_many (child_pairs ks cs))

pub keys_same : (es : List (ℤ × Branch)) → keys_of es ≡ keys_in es
keys_same [] = refl
keys_same (e ∷ es) = ap (λ (ks : List ℤ). e.0 ∷ ks) (keys_same es)

pub keys_paired : (ks : List ℤ) (cs : TreeList NodeOwn) → ArePaired ks cs → keys_of (child_pairs ks cs) ≡ ks
keys_paired ks cs is = keys_same (child_pairs ks cs) ∙ ap (λ x. x.0) is

-- ---- a node
abbrev NodeFits : Branch → Type 0
NodeFits t = Fits (records_of (node_records t))

abbrev AreInside : List (ℤ × Branch) → Type 0
AreInside es = AllHold node_keys.Normal (FitsInside node_words.normal node_words.records) es

own_normal : (a : Scores) (h : Shades) (r : NodeKept) → AreNormalScores a → AreNormalShades h → AreValid (records_of r) → AllUnknowns 3 IsUnknownShade r → NoNumber 1 r → NoNumber 2 r → IsNormalOwn a h r
own_normal a h r scores shades valid unknowns first second =
    ((bare IsText (FitsSigned w32) a scores.0, scores.1), (bare (FitsSigned w32) (ClosedFits shade_numbers) h shades.0, shades.1), are_kept r valid first second unknowns)

-- its children stand in its first slot, and there is no other
abbrev HasOneSlot : Branch → Type 0
HasOneSlot (branch a ks cs h r) = Unit {0}
HasOneSlot _ = ⊥

has_one : (t : Branch) → members.into (members.out t) ≡ t → HasOneSlot t
has_one (message_tree (a, (ks, (h, r))) ss) is = subst HasOneSlot is tt

mutual
  to_node : (t : Branch) → node_words.normal t → IsNormalNode t
  to_node (branch a ks cs h r) normal =
      let n = (normal_is 96 members members_sound (branch a ks cs h r) normal).2 in
      (own_normal a h r n.0 n.1.1.0 n.1.1.1 n.1.1.2 n.2 n.1.2, subst (IsStrictlySortedBy int_cmp) (keys_paired ks cs n.1.0.0) n.1.0.1.1, to_nodes ks cs (are_as_many ks cs n.1.0.0) n.1.0.1.0)
  to_node t normal = has_one t (normal_is 96 members members_sound t normal).1

  to_nodes : (ks : List ℤ) (cs : TreeList NodeOwn) → AreAsMany ks cs → AreInside (child_pairs ks cs) → AreNormalNodes ks cs
  to_nodes [] no_trees as_many n = tt
  to_nodes (k ∷ ks) (first_tree t cs) as_many n = (n.0.0, to_node t n.1.0, to_nodes ks cs as_many n.2)
  to_nodes _ _ as_many n = absurd as_many

mutual
  of_node : (t : Branch) → NodeFits t → IsNormalNode t → node_words.normal t
  of_node (branch a ks cs h r) fits n =
      let below = fits_both (map_records text_writing int32_writing 1 a) (nodes_records ks cs ++ (map_records int32_writing closed_writing 3 h ++ r)) fits in
      let inside = fits_both (nodes_records ks cs) (map_records int32_writing closed_writing 3 h ++ r) below.1 in
      let paired = are_paired ks cs n.2 in
      is_normal 96 members members_sound (branch a ks cs h r) (
        members_owe,
        refl,
        (
          (plus IsText (FitsSigned w32) a n.0.0.0, n.0.0.1),
          (
            (paired, (of_nodes ks cs inside.0 n.2, subst (IsStrictlySortedBy int_cmp) (sym (keys_paired ks cs paired)) n.1)),
            ((plus (FitsSigned w32) (ClosedFits shade_numbers) h n.0.1.0, n.0.1.1), are_valid r n.0.2, are_unknowns r n.0.2),
            other_numbers 2 (inr refl) r n.0.2,
          ),
          other_numbers 1 (inl refl) r n.0.2,
        ),
      )
  of_node _ fits n = absurd n

  of_nodes : (ks : List ℤ) (cs : TreeList NodeOwn) → Fits (records_of (nodes_records ks cs)) → AreNormalNodes ks cs → AreInside (child_pairs ks cs)
  of_nodes [] cs fits n = tt
  of_nodes (k ∷ ks) no_trees fits n = tt
  of_nodes (k ∷ ks) (first_tree t cs) fits n =
      let inner = short_encoding t (child_shorter k (node_encoding t) fits.0) in
      ((n.0, tt), (of_node t inner n.1, subst (λ z. Fits (records_of z)) (sym (records_same t)) inner), of_nodes ks cs fits.1 n.2)

pub node_normal_is : (t : Branch) → NodeFits t → node_words.normal t ↔ IsNormalNode t
node_normal_is t fits = (to_node t, of_node t fits)
