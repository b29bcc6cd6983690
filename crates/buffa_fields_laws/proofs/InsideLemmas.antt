-- What is proved of the messages in one: all that is required is there where each of them has what is asked of it.
use Rattle.std.specs.Prelude.{◌≡◌, ◌&&◌, Bool, true, false, refl}
use Rattle.std.proofs.Common.{ap, inl, inr, ◌∙◌}
use Rattle.buffa_recursive.specs.MessageTree.{MessageTree, TreeList, Maybe, InnerMembers, first_tree, message_tree, many, no_trees, no_inner, no_tree, one, some_tree}
use Rattle.buffa_recursive.specs.Initialized.{trees_have, tree_has, maybe_has, inner_have}
use Rattle.buffa_fields_laws.specs.MessagesInside.{IsIn, IsInList, IsInMaybe, IsInMembers}

both_true : (a b : Bool) → (a && b) ≡ true → (a ≡ true) × (b ≡ true)
both_true true b h = (refl, h)
both_true false b h = cc

true_both : (a b : Bool) → a ≡ true → b ≡ true → (a && b) ≡ true
true_both true b h j = j
true_both false b h j = h

module _ {W : Type 0} (asked : MessageTree W → Bool) where
  mutual
    pub all_have : (t : MessageTree W) → tree_has asked t ≡ true → (k : MessageTree W) → IsIn k t → asked k ≡ true
    all_have (message_tree o ss) h k (inl e) = ap asked e ∙ (both_true (asked (message_tree o ss)) (inner_have asked ss) h).0
    all_have (message_tree o ss) h k (inr is) = slots_each ss (both_true (asked (message_tree o ss)) (inner_have asked ss) h).1 k is

    slots_each : (ss : InnerMembers W) → inner_have asked ss ≡ true → (k : MessageTree W) → IsInMembers k ss → asked k ≡ true
    slots_each no_inner h k is = absurd is
    slots_each (many ks ss) h k (inl is) = children_each ks (both_true (trees_have asked ks) (inner_have asked ss) h).0 k is
    slots_each (many ks ss) h k (inr is) = slots_each ss (both_true (trees_have asked ks) (inner_have asked ss) h).1 k is
    slots_each (one m ss) h k (inl is) = maybe_each m (both_true (maybe_has asked m) (inner_have asked ss) h).0 k is
    slots_each (one m ss) h k (inr is) = slots_each ss (both_true (maybe_has asked m) (inner_have asked ss) h).1 k is

    children_each : (ks : TreeList W) → trees_have asked ks ≡ true → (k : MessageTree W) → IsInList k ks → asked k ≡ true
    children_each no_trees h k is = absurd is
    children_each (first_tree t ks) h k (inl is) = all_have t (both_true (tree_has asked t) (trees_have asked ks) h).0 k is
    children_each (first_tree t ks) h k (inr is) = children_each ks (both_true (tree_has asked t) (trees_have asked ks) h).1 k is

    maybe_each : (m : Maybe W) → maybe_has asked m ≡ true → (k : MessageTree W) → IsInMaybe k m → asked k ≡ true
    maybe_each no_tree h k is = absurd is
    maybe_each (some_tree t) h k is = all_have t h k is

  mutual
    pub has_all : (t : MessageTree W) → ((k : MessageTree W) → IsIn k t → asked k ≡ true) → tree_has asked t ≡ true
    has_all (message_tree o ss) f = true_both (asked (message_tree o ss)) (inner_have asked ss) (f (message_tree o ss) (inl refl)) (slots_all ss (λ k is. f k (inr is)))

    slots_all : (ss : InnerMembers W) → ((k : MessageTree W) → IsInMembers k ss → asked k ≡ true) → inner_have asked ss ≡ true
    slots_all no_inner f = refl
    slots_all (many ks ss) f = true_both (trees_have asked ks) (inner_have asked ss) (children_all ks (λ k is. f k (inl is))) (slots_all ss (λ k is. f k (inr is)))
    slots_all (one m ss) f = true_both (maybe_has asked m) (inner_have asked ss) (maybe_all m (λ k is. f k (inl is))) (slots_all ss (λ k is. f k (inr is)))

    children_all : (ks : TreeList W) → ((k : MessageTree W) → IsInList k ks → asked k ≡ true) → trees_have asked ks ≡ true
    children_all no_trees f = refl
    children_all (first_tree t ks) f = true_both (tree_has asked t) (trees_have asked ks) (has_all t (λ k is. f k (inl is))) (children_all ks (λ k is. f k (inr is)))

    maybe_all : (m : Maybe W) → ((k : MessageTree W) → IsInMaybe k m → asked k ≡ true) → maybe_has asked m ≡ true
    maybe_all no_tree f = refl
    maybe_all (some_tree t) f = has_all t f
