-- The members of a message that holds itself, one after the other. A message names them by these, and `recursive_message` is the message.
use Rattle.std.specs.Prelude.{◌≡◌, ◌≤◌, ℕ, List, [], ◌++◌, Option, refl}
use Rattle.std.proofs.Common.{◌∙◌, sym}
use Rattle.buffa_wire.specs.Records.{FieldData}
use Rattle.buffa_fields.specs.UnknownsOfMembers.{Unknowns}
use Rattle.buffa_fields.specs.Schema.{Schema, Shape}
use Rattle.buffa_fields.specs.MemberList.{field, keep_unknown, part, skip_unknown}
use Rattle.buffa_recursive.specs.MemberKinds.{AlikeTo, Kind, list_kind, one_kind, map_kind}
use Rattle.buffa_recursive.specs.MessageTree.{MessageTree, Rest, tree_of, rest_of, head_many, head_many_low, head_one, head_one_low, tree_low, children_height, tree_height, children_list, list_of-of_list, many, maybe_height, TreeList, Maybe, no_inner, of_list, of_option, one, option_of, option_of-of_option, inner_height, tail_low, tail_inner}
use Rattle.buffa_recursive.specs.RecursiveSchema.{CostAlike, SchemasAlike, RecursiveSchema, MergeAlike}
use Rattle.buffa_recursive.specs.facts.MemberListFacts.{added_say_alike, tree_lower, members_charge_alike, out_again, part_charged_alike, part_say_alike, part_taken_alike, rest_low, same_low, members_taken_alike}
use Rattle.buffa_fields.specs.OneOfParts.{OneOf}
use Rattle.buffa_recursive.specs.PlainParts.{PartBy, member_with_unknowns_by, member_by, one_of_by}
use Rattle.buffa_recursive.specs.MapTree.{pair_low, pairs_again, pairs_in, child_pairs}
use Rattle.buffa_recursive.specs.InnerMessages.{AreExactBy, Semantics}
use Rattle.buffa_recursive.specs.MapKeys.{Keys}

-- Some members, by what is told of the messages inside: W is what a message has of its own, and A what it has of that for these.
pub record MemberList (W A : Type 0) : Type 1 where
  pub Y : Type 0
  pub out : Rest W A → Y
  pub into : Y → Rest W A
  pub again : (y : Y) → out (into y) ≡ y
  pub blank : Y
  pub Owes : Type 0
  pub Exact : Type 0
  -- the records that are kept, and a value with some behind these
  pub kept : Y → List (ℕ × FieldData)
  pub adds : Y → List (ℕ × FieldData) → Y
  pub schema : {M : Type 0} → (M → Rest W A) → Semantics (MessageTree W) → Schema M Y
  pub meaning_is : {M : Type 0} (g : M → Rest W A) (w : Semantics (MessageTree W)) (m : M) → (schema g w).meaning m ≡ out (g m)
  pub blank_is : {M : Type 0} (g : M → Rest W A) (w : Semantics (MessageTree W)) → (schema g w).blank ≡ blank
  pub kept_is : {M : Type 0} (g : M → Rest W A) (w : Semantics (MessageTree W)) → (schema g w).kept ≡ kept
  pub adds_is : {M : Type 0} (g : M → Rest W A) (w : Semantics (MessageTree W)) → (schema g w).adds ≡ adds
  pub takes_alike : {M : Type 0} (g : M → Rest W A) (v w : Semantics (MessageTree W)) (d : ℕ) → MergeAlike v w d → (schema g v).takes d ≡ (schema g w).takes d
  pub charge_alike : {M : Type 0} (g : M → Rest W A) (v w : Semantics (MessageTree W)) (d : ℕ) → CostAlike v w d → (schema g v).charge d ≡ (schema g w).charge d
  pub say_alike : {M : Type 0} (g : M → Rest W A) (v w : Semantics (MessageTree W)) (h : ℕ) (r : Rest W A) → inner_height r.1 ≤ h → AlikeTo tree_height v w h → SchemasAlike (schema g v) (schema g w) (out r)
  pub owes : {M : Type 0} (g : M → Rest W A) (w : Semantics (MessageTree W)) → Owes → (schema g w).Owes
  pub exact : {M : Type 0} (g : M → Rest W A) (w : Semantics (MessageTree W)) → Exact → AreExactBy w → (schema g w).Exact

-- a member of a kind, under a number, and the others: split has what a message has for the member, and for the others
abbrev pub added : {W A B C : Type 0} (k : ℕ) (kind : Kind (MessageTree W) tree_height A) (split : Rest W B → A × Rest W C) (join : A × Rest W C → Rest W B) → ((p : A × Rest W C) → split (join p) ≡ p) →
    ((h : ℕ) (r : Rest W B) → inner_height r.1 ≤ h → kind.Low h (split r).0) → ((r : Rest W B) → inner_height (split r).1.1 ≤ inner_height r.1) → MemberList W C → MemberList W B
added {A = A} k kind split join again first others o = record {
  Y = A × o.Y;
  out = λ r. ((split r).0, o.out (split r).1);
  into = λ y. join (y.0, o.into y.1);
  again = λ y. out_again o.out (again (y.0, o.into y.1)) (o.again y.1);
  blank = (kind.blank, o.blank);
  Owes = kind.Owes × o.Owes;
  Exact = kind.Exact × o.Exact;
  kept = λ y. o.kept y.1;
  adds = λ y rs. (y.0, o.adds y.1 rs);
  schema = λ g w. field k (λ m. (split (g m)).0) (kind.shape w) (o.schema (λ m. (split (g m)).1) w);
  meaning_is = λ g w m. λ i. (kind.meaning_is w (split (g m)).0 i, o.meaning_is (λ m. (split (g m)).1) w m i);
  blank_is = λ g w. λ i. (kind.blank_is w i, o.blank_is (λ m. (split (g m)).1) w i);
  kept_is = λ g w. λ i y. o.kept_is (λ m. (split (g m)).1) w i y.1;
  adds_is = λ g w. λ i y rs. (y.0, o.adds_is (λ m. (split (g m)).1) w i y.1 rs);
  takes_alike = λ g v w d h. members_taken_alike (λ m. (split (g m)).0) k (kind.shape v) (kind.shape w) (o.schema (λ m. (split (g m)).1) v) (o.schema (λ m. (split (g m)).1) w) d (kind.takes_alike v w d h) (o.takes_alike (λ m. (split (g m)).1) v w d h);
  charge_alike = λ g v w d h. members_charge_alike (λ m. (split (g m)).0) k (kind.shape v) (kind.shape w) (o.schema (λ m. (split (g m)).1) v) (o.schema (λ m. (split (g m)).1) w) d (kind.charge_alike v w d h) (o.charge_alike (λ m. (split (g m)).1) v w d h);
  say_alike = λ g v w h r low alike.
      added_say_alike (λ m. (split (g m)).0) k (kind.shape v) (kind.shape w) (o.schema (λ m. (split (g m)).1) v) (o.schema (λ m. (split (g m)).1) w) (split r).0 (o.out (split r).1)
      (o.kept_is (λ m. (split (g m)).1) v ∙ sym (o.kept_is (λ m. (split (g m)).1) w))
      (kind.say_alike v w k h (split r).0 (first h r low) alike) (o.say_alike (λ m. (split (g m)).1) v w h (split r).1 (tree_lower (others r) low) alike);
  owes = λ g w owes. (kind.owes w owes.0, o.owes (λ m. (split (g m)).1) w owes.1);
  exact = λ g w exact inside. (kind.exact w exact.0 inside, o.exact (λ m. (split (g m)).1) w exact.1 inside);
}

-- a part of another type, and the others
abbrev pub other_part : {W A B : Type 0} → PartBy A → MemberList W B → MemberList W (A × B)
other_part {A = A} p o = record {
  Y = A × o.Y;
  out = λ r. (r.0.0, o.out (r.0.1, r.1));
  into = λ y. let r = o.into y.1 in ((y.0, r.0), r.1);
  again = λ y. λ i. (y.0, o.again y.1 i);
  blank = (p.blank, o.blank);
  Owes = p.Owes × o.Owes;
  Exact = p.Exact × o.Exact;
  kept = λ y. o.kept y.1;
  adds = λ y rs. (y.0, o.adds y.1 rs);
  schema = λ g w. part (p.at (λ m. (g m).0.0)) (p.laws (λ m. (g m).0.0)) (o.schema (λ m. ((g m).0.1, (g m).1)) w);
  meaning_is = λ g w m. λ i. (p.meaning_is (λ m. (g m).0.0) m i, o.meaning_is (λ m. ((g m).0.1, (g m).1)) w m i);
  blank_is = λ g w. λ i. (p.blank_is (λ m. (g m).0.0) i, o.blank_is (λ m. ((g m).0.1, (g m).1)) w i);
  kept_is = λ g w. λ i y. o.kept_is (λ m. ((g m).0.1, (g m).1)) w i y.1;
  adds_is = λ g w. λ i y rs. (y.0, o.adds_is (λ m. ((g m).0.1, (g m).1)) w i y.1 rs);
  takes_alike = λ g v w d h.
      let others = λ (w : Semantics (MessageTree _)). o.schema (λ m. ((g m).0.1, (g m).1)) w in
      part_taken_alike (p.at (λ m. (g m).0.0)) (p.laws (λ m. (g m).0.0)) (others v) (others w) d (o.adds_is (λ m. ((g m).0.1, (g m).1)) v ∙ sym (o.adds_is (λ m. ((g m).0.1, (g m).1)) w)) (o.takes_alike (λ m. ((g m).0.1, (g m).1)) v w d h);
  charge_alike = λ g v w d h.
      let others = λ (w : Semantics (MessageTree _)). o.schema (λ m. ((g m).0.1, (g m).1)) w in
      part_charged_alike (p.at (λ m. (g m).0.0)) (p.laws (λ m. (g m).0.0)) (others v) (others w) d (o.charge_alike (λ m. ((g m).0.1, (g m).1)) v w d h);
  say_alike = λ g v w h r low alike.
      let others = λ (w : Semantics (MessageTree _)). o.schema (λ m. ((g m).0.1, (g m).1)) w in
      part_say_alike (p.at (λ m. (g m).0.0)) (p.laws (λ m. (g m).0.0)) (others v) (others w) r.0.0 (o.out (r.0.1, r.1)) (o.kept_is (λ m. ((g m).0.1, (g m).1)) v ∙ sym (o.kept_is (λ m. ((g m).0.1, (g m).1)) w))
      (o.say_alike (λ m. ((g m).0.1, (g m).1)) v w h (r.0.1, r.1) low alike);
  owes = λ g w owes. (p.owes (λ m. (g m).0.0) owes.0, o.owes (λ m. ((g m).0.1, (g m).1)) w owes.1);
  exact = λ g w exact inside. (p.exact (λ m. (g m).0.0) exact.0, o.exact (λ m. ((g m).0.1, (g m).1)) w exact.1 inside);
}

-- a member of another type
abbrev pub member : {W P A B : Type 0} → ℕ → Shape P A → MemberList W B → MemberList W (A × B)
member k s o = other_part (member_by k s) o

-- one that puts aside what it doesn't understand, among the fields that are kept
abbrev pub member_with_unknowns : {W P A B : Type 0} → ℕ → Shape P A → Unknowns A → MemberList W B → MemberList W (A × B)
member_with_unknowns k s a o = other_part (member_with_unknowns_by k s a) o

-- a oneof, whose cases are of other types
abbrev pub member_one_of : {W O X B : Type 0} → OneOf O X → MemberList W B → MemberList W (Option X × B)
member_one_of e o = other_part (one_of_by e) o

-- a list of the message's own type
abbrev pub list_inside : {W B : Type 0} → ℕ → MemberList W B → MemberList W B
list_inside k o = added k list_kind (λ r. (head_many r.1, (r.0, tail_inner r.1))) (λ p. (p.1.0, many p.0 p.1.1)) (λ p. refl) (λ h r low. tree_lower (head_many_low r.1) low) (λ r. tail_low r.1) o

-- one message of the message's own type, that may be there
abbrev pub one_inside : {W B : Type 0} → ℕ → MemberList W B → MemberList W B
one_inside k o = added k one_kind (λ r. (head_one r.1, (r.0, tail_inner r.1))) (λ p. (p.1.0, one p.0 p.1.1)) (λ p. refl) (λ h r low. tree_lower (head_one_low r.1) low) (λ r. tail_low r.1) o

-- a map of the message's own type, by its keys
abbrev pub map_inside : {W K B : Type 0} → ℕ → Keys K → MemberList W B → MemberList W (List K × B)
map_inside k keys o =
    added k (map_kind keys) (λ r. ((r.0.0, head_many r.1), (r.0.1, tail_inner r.1))) (λ p. ((p.0.0, p.1.0), many p.0.1 p.1.1)) (λ p. refl) (λ h r low. tree_lower (head_many_low r.1) low) (λ r. tail_low r.1) o

-- fields that aren't declared are kept
abbrev pub keeps_unknown : {W : Type 0} → MemberList W (List (ℕ × FieldData))
keeps_unknown = record {
  Y = List (ℕ × FieldData);
  out = λ r. r.0;
  into = λ y. (y, no_inner);
  again = λ y. refl;
  blank = [];
  Owes = Unit {0};
  Exact = Unit {0};
  kept = λ y. y;
  adds = λ y rs. y ++ rs;
  schema = λ g w. keep_unknown (λ m. (g m).0);
  meaning_is = λ g w m. refl;
  blank_is = λ g w. refl;
  kept_is = λ g w. refl;
  adds_is = λ g w. refl;
  takes_alike = λ g v w d h. refl;
  charge_alike = λ g v w d h. refl;
  say_alike = λ g v w h r low alike. (refl, refl, refl, λ normal. normal);
  owes = λ g w owes. tt;
  exact = λ g w exact inside. tt;
}

-- they are passed over
abbrev pub skips_unknown : {W : Type 0} → MemberList W (Unit {0})
skips_unknown = record {
  Y = Unit {0};
  out = λ r. tt;
  into = λ y. (tt, no_inner);
  again = λ y. refl;
  blank = tt;
  Owes = Unit {0};
  Exact = Unit {0};
  kept = λ y. [];
  adds = λ y rs. y;
  schema = λ g w. skip_unknown;
  meaning_is = λ g w m. refl;
  blank_is = λ g w. refl;
  kept_is = λ g w. refl;
  adds_is = λ g w. refl;
  takes_alike = λ g v w d h. refl;
  charge_alike = λ g v w d h. refl;
  say_alike = λ g v w h r low alike. (refl, refl, refl, λ normal. normal);
  owes = λ g w owes. tt;
  exact = λ g w exact inside. tt;
}

-- ---- the message
abbrev pub recursive_message : {W : Type 0} → MemberList W W → RecursiveSchema (MessageTree W)
recursive_message {W} o = record {
  height = tree_height;
  TreeList = TreeList W;
  of_list = of_list;
  children_list = children_list;
  list_again = list_of-of_list;
  children_height = children_height;
  tree_low = tree_low;
  Maybe = Maybe W;
  of_option = of_option;
  option_of = option_of;
  option_again = option_of-of_option;
  maybe_height = maybe_height;
  one_low = λ x. same_low (tree_height x);
  Pairs = λ K. List K × TreeList W;
  of_pairs = λ ps. pairs_in ps;
  pairs_from = λ a. child_pairs a.0 a.1;
  pairs_again = λ ps. pairs_again ps;
  pairs_height = λ a. children_height a.1;
  pair_low = λ ps x is. pair_low ps x is;
  Y = o.Y;
  out = λ x. o.out (rest_of x);
  into = λ y. tree_of (o.into y);
  again = λ y. o.again y;
  blank = o.blank;
  Owes = o.Owes;
  Exact = o.Exact;
  schema = λ w. o.schema rest_of w;
  meaning_is = λ w x. o.meaning_is rest_of w x;
  blank_is = λ w. o.blank_is rest_of w;
  takes_alike = λ v w d h. o.takes_alike rest_of v w d h;
  charge_alike = λ v w d h. o.charge_alike rest_of v w d h;
  say_alike = λ v w x alike. o.say_alike rest_of v w (inner_height (rest_of x).1) (rest_of x) (same_low (inner_height (rest_of x).1)) (λ k low. alike k (rest_low x k low));
  owes = λ w owes. o.owes rest_of w owes;
  exact = λ w exact inside. o.exact rest_of w exact inside;
}
