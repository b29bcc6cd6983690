-- Of a refused field of a node what the specs say holds.
use Rattle.std.proofs.Common.{◌≡◌, ◌≢◌, ℕ, ℤ, ◌+◌, ◌==◌, Bool, true, false, List, Result, Ok, Err, IfErr, refl, sym, ap, subst, ◌∙◌, arith}
use Rattle.std.proofs.lemmas.Bool.{eqb-false, eqb-true}
use Rattle.buffa_bytes.specs.declared.error.DecodeError.{DecodeError}
use Rattle.buffa_bytes.specs.declared.error.DecodeError.TheVariants.{OutOfMemory}
use Rattle.buffa_bytes.specs.declared.wire_type.WireType.{WireType}
use Rattle.buffa_wire.specs.BudgetLeft.{BudgetLeft}
use Rattle.buffa_wire.specs.Pinned.{refusal}
use Rattle.buffa_wire.specs.RecordReading.{field_at}
use Rattle.buffa_map.specs.Message.{message_reading}
use Rattle.buffa_map.specs.Scalars.{int32_reading, text_reading}
use Rattle.buffa_fields.specs.UnknownsOfMembers.{Unknowns, TookWithUnknowns}
use Rattle.buffa_recursive.specs.MessageTree.{TreeList, head_many, message_tree}
use Rattle.buffa_fields.specs.Schema.{Choice, IsFieldKept, Shape, Took, RefusesAsSaid}
use Rattle.buffa_recursive.specs.MapTree.{child_pairs, pairs_again}
use Rattle.buffa_recursive.specs.RefusedFields.{IsSelfRefused}
use Rattle.buffa_recursive.specs.facts.FixpointFacts.{blank_is, each_is}
use Rattle.sample_node.proofs.NodeSchemaLemmas.{members, members_sound, node_words}
use Rattle.sample_node.proofs.NodeReadLemmas.{in_node_words}
use Rattle.sample_node.specs.Branch.{Branch, IsNode, NodeKept, NodeOwn, Scores, Shades, blank_node, branch, node_of}
use Rattle.sample_node.specs.NodeMeaning.{node_cost, node_merged, shade_reading}
use Rattle.sample_node.specs.Refused.{HasEntryFault, IsNodeRefused}

-- what a node has, its children as pairs
abbrev Parts : Type 0
Parts = Scores × (List (ℤ × Branch) × (Shades × NodeKept))

abbrev parts_of : Branch → Parts
parts_of (message_tree (a, (ks, (h, r))) ss) = (a, (child_pairs ks (head_many ss), (h, r)))

-- how a child is read, and what it costs, is what the specs say
child_fault : (d n : ℕ) (w : WireType) (bs : List ℕ) (left : BudgetLeft) (e : DecodeError) →
    HasEntryFault int32_reading (message_reading node_words.blank node_words.merged node_words.cost) (4 + node_words.each) 0 d n w bs left e → HasEntryFault int32_reading (message_reading blank_node node_merged node_cost) 100 0 d n w bs left e
child_fault d n w bs left e h =
    in_node_words (λ m c. HasEntryFault int32_reading (message_reading blank_node m c) 100 0 d n w bs left e)
    (subst (λ (z : Branch). HasEntryFault int32_reading (message_reading z node_words.merged node_words.cost) 100 0 d n w bs left e) (blank_is 96 members members_sound)
    (subst (λ z. HasEntryFault int32_reading (message_reading node_words.blank node_words.merged node_words.cost) (4 + z) 0 d n w bs left e) (each_is 96 members members_sound) h))

-- ---- a member that refused it says why, and what is kept stays
module _ (d n : ℕ) (w : WireType) (bs rest : List ℕ) (before after : BudgetLeft) (e : DecodeError) where
  took_refused : {P X : Type 0} (s : Shape P X) (old new : P) → Took s d old n w bs before (refusal e) new after rest → s.refuses d (s.meaning old) n w bs before e (s.meaning new)
  unfolding RefusesAsSaid
  took_refused s old new took = took.3 e refl

  refused_with_unknowns : {P X : Type 0} (s : Shape P X) (a : Unknowns X) (old new : P) (r r2 : NodeKept) → TookWithUnknowns s a d old r n w bs before (refusal e) new r2 after rest → a.refuses d (s.meaning old) n w bs before e (s.meaning new) × (r ≡ r2)
  unfolding TookWithUnknowns
  refused_with_unknowns s a old new r r2 took = took.3 e refl

  keep_refused : (r r2 : NodeKept) → IsFieldKept d r n w bs before (refusal e) r2 after rest → (r ≡ r2) × (e ≢ OutOfMemory → field_at d before.unknown n w bs ≡ Err e)
  unfolding IsFieldKept
  keep_refused r r2 kept = (kept.1, λ ne. (kept.4 e refl ne).0)

-- ---- the member of the number refused it, and the others stay; u and v are nodes of these parts
module _ (v u : Branch) (d n : ℕ) (w : WireType) (bs : List ℕ) (left : BudgetLeft) (e : DecodeError) (a a2 : Scores) (ks ks2 : List ℤ) (cs cs2 : TreeList NodeOwn) (h h2 : Shades) (r r2 : NodeKept)
    (stay : parts_of (branch a2 ks2 cs2 h2 r2) ≡ parts_of (branch a ks cs h r) → IsNode u → u ≡ v) where
  abbrev Children : Type 0
  Children = List ℤ × TreeList NodeOwn

  abbrev old_children : Children
  old_children = (ks, cs)

  abbrev new_children : Children
  new_children = (ks2, cs2)

  by_number : {One Two Three Four : Type 0} (i j k : Bool) → (n == 1) ≡ i → (n == 2) ≡ j → (n == 3) ≡ k →
      Choice i (One × ((new_children ≡ old_children) × ((h2 ≡ h) × (r2 ≡ r)))) ((a2 ≡ a) × Choice j (Two × ((h2 ≡ h) × (r2 ≡ r))) ((new_children ≡ old_children) × Choice k (Three × Unit {0}) ((h2 ≡ h) × Four))) →
      (One → (a ≡ a2) × (e ≢ OutOfMemory → HasEntryFault text_reading int32_reading 28 0 d n w bs left e)) →
      (Two → (child_pairs ks cs ≡ child_pairs ks2 cs2) × (e ≢ OutOfMemory → HasEntryFault int32_reading (message_reading node_words.blank node_words.merged node_words.cost) (4 + node_words.each) 0 d n w bs left e)) →
      (Three → ((h ≡ h2) × (e ≢ OutOfMemory → HasEntryFault int32_reading shade_reading 8 1 d n w bs left e)) × (r ≡ r2)) → (Four → (r ≡ r2) × (e ≢ OutOfMemory → field_at d left.unknown n w bs ≡ Err e)) → IsNodeRefused d v n w bs left e v × (IsNode u → u ≡ v)
  by_number true j k is _ _ (took, (children, (shades, kept))) one two three four =
      let semantics = one took in (
        record {
          stays = refl;
          score = λ _. semantics.1;
          child = λ at. absurd (omega (arith, eqb-true n 1 is, at));
          shade = λ at. absurd (omega (arith, eqb-true n 1 is, at));
          other = λ none _ _. absurd (none (eqb-true n 1 is));
        },
        stay (λ i. (sym semantics.0 i, (child_pairs (children i).0 (children i).1, (shades i, kept i)))),
      )
  by_number false true k off is _ (scores, (took, (shades, kept))) one two three four =
      let semantics = two took in (
        record {
          stays = refl;
          score = λ at. absurd (eqb-false n 1 off at);
          child = λ _ ne. child_fault d n w bs left e (semantics.1 ne);
          shade = λ at. absurd (omega (arith, eqb-true n 2 is, at));
          other = λ _ none _. absurd (none (eqb-true n 2 is));
        },
        stay (λ i. (scores i, (sym semantics.0 i, (shades i, kept i)))),
      )
  by_number false false true off away is (scores, (children, (took, _))) one two three four =
      let semantics = three took in (
        record {
          stays = refl;
          score = λ at. absurd (eqb-false n 1 off at);
          child = λ at. absurd (eqb-false n 2 away at);
          shade = λ _. semantics.0.1;
          other = λ _ _ none. absurd (none (eqb-true n 3 is));
        },
        stay (λ i. (scores i, (child_pairs (children i).0 (children i).1, (sym semantics.0.0 i, sym semantics.1 i)))),
      )
  by_number false false false off away apart (scores, (children, (shades, took))) one two three four =
      let semantics = four took in (
        record {
          stays = refl;
          score = λ at. absurd (eqb-false n 1 off at);
          child = λ at. absurd (eqb-false n 2 away at);
          shade = λ at. absurd (eqb-false n 3 apart at);
          other = λ _ _ _. semantics.1;
        },
        stay (λ i. (scores i, (child_pairs (children i).0 (children i).1, (shades i, sym semantics.0 i)))),
      )

-- ---- a node
-- a node is what its parts make
node_by : (t : Branch) → IsNode t → (let p = parts_of t in node_of p.0 p.1.0 p.1.1.0 p.1.1.1) ≡ t
node_by t (a, es, h, r, is) = ap (λ (x : Branch). let p = parts_of x in node_of p.0 p.1.0 p.1.1.0 p.1.1.1) is ∙ (λ i. node_of a (pairs_again es i) h r) ∙ sym is

same_node : (u v : Branch) → IsNode u → IsNode v → parts_of u ≡ parts_of v → u ≡ v
same_node u v is so same = sym (node_by u is) ∙ ap (λ (p : Parts). node_of p.0 p.1.0 p.1.1.0 p.1.1.1) same ∙ node_by v so

-- what the members mean, as these parts
abbrev parts_in : members.Y → Parts
parts_in y = (y.0, (child_pairs y.1.0.0 y.1.0.1, y.1.1))

parts_by_meaning : (t : Branch) → parts_in (members.out t) ≡ parts_of t
parts_by_meaning (message_tree (a, (ks, (h, r))) ss) = refl

-- what a refused field leaves has the parts of the node that stood, and is it, where it is a node
pub node_refused : (d : ℕ) (v : Branch) (n : ℕ) (w : WireType) (bs : List ℕ) (left : BudgetLeft) (e : DecodeError) (u : Branch) → IsNode v → IsSelfRefused 96 members members_sound d v n w bs left e u →
    IsNodeRefused d v n w bs left e v × (IsNode u → u ≡ v)
node_refused d v n w bs left e u old (apart, (message_tree (a, (ks, (h, r))) ss, message_tree (a2, (ks2, (h2, r2))) ss2, after, rest, was, is, taken)) =
    by_number v u d n w bs left e a a2 ks ks2 (head_many ss) (head_many ss2) h h2 r r2
    (λ same new. same_node u v new old (sym (ap parts_in is ∙ parts_by_meaning u) ∙ same ∙ ap parts_in was ∙ parts_by_meaning v)) (n == 1) (n == 2) (n == 3) refl refl refl taken
    (λ took. took_refused d n w bs rest left after e _ a a2 took) (λ took. took_refused d n w bs rest left after e _ (ks, head_many ss) (ks2, head_many ss2) took) (λ took. refused_with_unknowns d n w bs rest left after e _ _ h h2 r r2 took)
    (λ kept. keep_refused d n w bs rest left after e r r2 kept)

pub refused_node : (d : ℕ) (v : Branch) (n : ℕ) (w : WireType) (bs : List ℕ) (left : BudgetLeft) (e : DecodeError) (u : Branch) → IsNode v → IsNode u → IsSelfRefused 96 members members_sound d v n w bs left e u → IsNodeRefused d v n w bs left e u
refused_node d v n w bs left e u old new h =
    let semantics = node_refused d v n w bs left e u old h in subst (λ z. IsNodeRefused d v n w bs left e z) (sym (semantics.1 new)) semantics.0

pub refused_if : {T : Type 0} (d : ℕ) (v : Branch) (n : ℕ) (w : WireType) (bs : List ℕ) (left : BudgetLeft) (u : Branch) → IsNode v → IsNode u → (r : Result T DecodeError) → IfErr r (λ e. IsSelfRefused 96 members members_sound d v n w bs left e u) →
    IfErr r (λ e. IsNodeRefused d v n w bs left e u)
refused_if d v n w bs left u old new (Ok x) h = tt
refused_if d v n w bs left u old new (Err e) h = refused_node d v n w bs left e u old new h
