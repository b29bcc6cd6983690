-- Whether all that is required is there in a message that holds itself: each message of the tree, at any depth, has what is asked of it.
-- Source: the protobuf language guide for proto2, "Specifying Field Rules"; a message in a required or optional field, in a list or in a map
-- has to have all of its own, too.
use Rattle.std.specs.Prelude.{◌&&◌, Bool, true, Option, None, Some}
use Rattle.buffa_recursive.specs.MessageTree.{MessageTree, TreeList, Maybe, InnerMembers, first_tree, message_tree, many, no_trees, no_inner, no_tree, one, some_tree}

-- by what is asked of one message, apart from those of its own type in it
module _ {W : Type 0} (asked : MessageTree W → Bool) where
  abbrev mutual
    pub tree_has : MessageTree W → Bool
    tree_has (message_tree o ss) = asked (message_tree o ss) && inner_have ss

    pub inner_have : InnerMembers W → Bool
    inner_have no_inner = true
    inner_have (many ks ss) = trees_have ks && inner_have ss
    inner_have (one m ss) = maybe_has m && inner_have ss

    pub trees_have : TreeList W → Bool
    trees_have no_trees = true
    trees_have (first_tree t ks) = tree_has t && trees_have ks

    pub maybe_has : Maybe W → Bool
    maybe_has no_tree = true
    maybe_has (some_tree t) = tree_has t

-- it is so of what may be there
abbrev pub true_if_there : {X : Type 0} → (X → Bool) → Option X → Bool
true_if_there f None = true
true_if_there f (Some x) = f x
