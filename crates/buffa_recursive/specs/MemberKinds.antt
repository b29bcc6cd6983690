-- Kinds of members of a message that holds itself: each by what is told of the messages inside.
use Rattle.std.specs.Prelude.{List, ◌≡◌, ◌≤◌, ℕ, refl, []}
use Rattle.buffa_fields.specs.Schema.{ReadsBackTo, Shape}
use Rattle.buffa_recursive.specs.facts.MemberKindFacts.{children_back, list_cost_alike, list_say_alike, list_takes_alike, child_back, one_cost_alike, one_say_alike, one_takes_alike}
use Rattle.buffa_recursive.specs.MessageTree.{TreeList, MessageTree, Maybe, children_height, tree_height, children_list, maybe_height, no_trees, no_tree, of_list, of_option, option_of}
use Rattle.buffa_recursive.specs.MapKeys.{Keys, KeysReadBack}
use Rattle.buffa_recursive.specs.facts.MapKindFacts.{pairs_back_by_semantics, pairs_charge_alike, pairs_say_alike, pairs_takes_alike}
use Rattle.buffa_recursive.specs.MapTree.{pairs_by_semantics}
use Rattle.buffa_recursive.specs.RecursiveSchema.{CostAlike, MergeAlike, SayAlike}
use Rattle.buffa_recursive.specs.InnerMessages.{AreExactBy, Semantics, as_other, list_shape, child_shape}

-- words that are alike in what is told of values of this height and less
abbrev pub AlikeTo : {X : Type 0} → (X → ℕ) → Semantics X → Semantics X → ℕ → Type 0
AlikeTo {X} height v w h = (x : X) → height x ≤ h → SayAlike v w x

-- two shapes are alike, of a value under a number
abbrev pub ShapesAlike : {A : Type 0} → Shape A A → Shape A A → ℕ → A → Type 0
ShapesAlike s t k a = (s.records k a ≡ t.records k a) × (s.slots a ≡ t.slots a) × (s.levels a ≡ t.levels a) × (s.normal a → t.normal a)

pub record Kind (X : Type 0) (height : X → ℕ) (A : Type 0) : Type 1 where
  pub shape : Semantics X → Shape A A
  pub blank : A
  -- those inside are no higher
  pub Low : ℕ → A → Type 0
  -- what the member owes, where it holds other messages
  pub Owes : Type 0
  pub Exact : Type 0
  pub meaning_is : (w : Semantics X) (a : A) → (shape w).meaning a ≡ a
  pub blank_is : (w : Semantics X) → (shape w).blank ≡ blank
  pub takes_alike : (v w : Semantics X) (d : ℕ) → MergeAlike v w d → (shape v).takes d ≡ (shape w).takes d
  pub charge_alike : (v w : Semantics X) (d : ℕ) → CostAlike v w d → (shape v).charge d ≡ (shape w).charge d
  pub say_alike : (v w : Semantics X) (k h : ℕ) (a : A) → Low h a → AlikeTo height v w h → ShapesAlike (shape v) (shape w) k a
  pub owes : (w : Semantics X) → Owes → ReadsBackTo (shape w)
  pub exact : (w : Semantics X) → Exact → AreExactBy w → (shape w).Exact

-- a list of the message's own type
abbrev pub list_kind : {W : Type 0} → Kind (MessageTree W) tree_height (TreeList W)
list_kind = record {
  shape = λ w. as_other of_list children_list (list_shape w);
  blank = no_trees;
  Low = λ h ks. children_height ks ≤ h;
  Owes = Unit {0};
  Exact = Unit {0};
  meaning_is = λ w a. refl;
  blank_is = λ w. refl;
  takes_alike = list_takes_alike;
  charge_alike = list_cost_alike;
  say_alike = list_say_alike;
  owes = λ w _. children_back w;
  exact = λ w _ inside. inside;
}

-- one message of the message's own type, that may be there
abbrev pub one_kind : {W : Type 0} → Kind (MessageTree W) tree_height (Maybe W)
one_kind = record {
  shape = λ w. as_other of_option option_of (child_shape w);
  blank = no_tree;
  Low = λ h m. maybe_height m ≤ h;
  Owes = Unit {0};
  Exact = Unit {0};
  meaning_is = λ w a. refl;
  blank_is = λ w. refl;
  takes_alike = one_takes_alike;
  charge_alike = one_cost_alike;
  say_alike = one_say_alike;
  owes = λ w _. child_back w;
  exact = λ w _ inside. inside;
}

-- a map of the message's own type, whose keys are these
abbrev pub map_kind : {W K : Type 0} → Keys K → Kind (MessageTree W) tree_height (List K × TreeList W)
map_kind keys = record {
  shape = λ w. pairs_by_semantics keys w;
  blank = ([], no_trees);
  Low = λ h a. children_height a.1 ≤ h;
  Owes = KeysReadBack keys;
  Exact = Unit {0};
  meaning_is = λ w a. refl;
  blank_is = λ w. refl;
  takes_alike = pairs_takes_alike keys;
  charge_alike = λ v w d h. pairs_charge_alike keys v w d h.2 h;
  say_alike = pairs_say_alike keys;
  owes = λ w good. pairs_back_by_semantics keys good w;
  exact = λ w _ inside. inside;
}
