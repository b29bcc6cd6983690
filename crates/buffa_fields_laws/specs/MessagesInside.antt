-- Which messages are in one that holds itself: it itself, and those in its slots, at any depth.
use Rattle.std.specs.Prelude.{◌≡◌, ◌⊎◌}
use Rattle.buffa_recursive.specs.MessageTree.{MessageTree, TreeList, Maybe, InnerMembers, first_tree, message_tree, many, no_trees, no_inner, no_tree, one, some_tree}

module _ {W : Type 0} (k : MessageTree W) where
  abbrev mutual
    pub IsIn : MessageTree W → Type 0
    IsIn (message_tree o ss) = (k ≡ message_tree o ss) ⊎ IsInMembers ss

    pub IsInMembers : InnerMembers W → Type 0
    IsInMembers no_inner = ⊥
    IsInMembers (many ks ss) = IsInList ks ⊎ IsInMembers ss
    IsInMembers (one m ss) = IsInMaybe m ⊎ IsInMembers ss

    pub IsInList : TreeList W → Type 0
    IsInList no_trees = ⊥
    IsInList (first_tree t ks) = IsIn t ⊎ IsInList ks

    pub IsInMaybe : Maybe W → Type 0
    IsInMaybe no_tree = ⊥
    IsInMaybe (some_tree t) = IsIn t
