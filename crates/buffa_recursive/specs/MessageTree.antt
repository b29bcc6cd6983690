-- What a message that holds itself is in contracts: a knot has what the message has of its own, and for each member that holds the
-- message's own type a slot, in order, with the messages inside.
use Rattle.std.specs.Prelude.{◌≡◌, ℕ, zero, suc, ◌+◌, ◌≤◌, ◌<◌, max, List, [], ◌∷◌, length, Option, Some, None, refl}
use Rattle.std.proofs.Common.{ap, arith, get_or}
use Rattle.std.specs.Coded.{Coded}
use Rattle.buffa_wire.specs.StoredRecords.{stored_head, stored_tail}
use denote.Param.Weighed.{most}
use base.Stored.{Gv, gnil, gnum, gcons}

mutual
  pub data MessageTree (W : Type 0) : Type 0 where
    message_tree : W → InnerMembers W → MessageTree W

  pub data InnerMembers (W : Type 0) : Type 0 where
    no_inner : InnerMembers W
    many : TreeList W → InnerMembers W → InnerMembers W
    one : Maybe W → InnerMembers W → InnerMembers W

  pub data TreeList (W : Type 0) : Type 0 where
    no_trees : TreeList W
    first_tree : MessageTree W → TreeList W → TreeList W

  pub data Maybe (W : Type 0) : Type 0 where
    no_tree : Maybe W
    some_tree : MessageTree W → Maybe W

-- what a message has of its own, all or for some members, and its slots
abbrev pub Rest : Type 0 → Type 0 → Type 0
Rest W A = A × InnerMembers W

abbrev pub rest_of : {W : Type 0} → MessageTree W → Rest W W
rest_of (message_tree o ss) = (o, ss)

abbrev pub tree_of : {W : Type 0} → Rest W W → MessageTree W
tree_of r = message_tree r.0 r.1

-- the messages of a slot as a list, or as one that may be there, and back
abbrev pub of_list : {W : Type 0} → List (MessageTree W) → TreeList W
of_list [] = no_trees
of_list (t ∷ ts) = first_tree t (of_list ts)

abbrev pub children_list : {W : Type 0} → TreeList W → List (MessageTree W)
children_list no_trees = []
children_list (first_tree t ks) = t ∷ children_list ks

pub list_of-of_list : {W : Type 0} (ts : List (MessageTree W)) → children_list (of_list ts) ≡ ts
list_of-of_list [] = refl
list_of-of_list {W} (t ∷ ts) = ap (λ (xs : List (MessageTree W)). t ∷ xs) (list_of-of_list ts)

pub of_list-list_of : {W : Type 0} (ks : TreeList W) → of_list (children_list ks) ≡ ks
of_list-list_of no_trees = refl
of_list-list_of (first_tree t ks) = ap (first_tree t) (of_list-list_of ks)

abbrev pub of_option : {W : Type 0} → Option (MessageTree W) → Maybe W
of_option None = no_tree
of_option (Some t) = some_tree t

abbrev pub option_of : {W : Type 0} → Maybe W → Option (MessageTree W)
option_of no_tree = None
option_of (some_tree t) = Some t

pub option_of-of_option : {W : Type 0} (o : Option (MessageTree W)) → option_of (of_option o) ≡ o
option_of-of_option None = refl
option_of-of_option (Some t) = refl

pub of_option-option_of : {W : Type 0} (m : Maybe W) → of_option (option_of m) ≡ m
of_option-option_of no_tree = refl
of_option-option_of (some_tree t) = refl

-- ---- its first slot, and the others
module _ {W : Type 0} where
  abbrev pub head_many : InnerMembers W → TreeList W
  head_many no_inner = no_trees
  head_many (many ks ss) = ks
  head_many (one m ss) = no_trees

  abbrev pub head_one : InnerMembers W → Maybe W
  head_one no_inner = no_tree
  head_one (many ks ss) = no_tree
  head_one (one m ss) = m

  abbrev pub tail_inner : InnerMembers W → InnerMembers W
  tail_inner no_inner = no_inner
  tail_inner (many ks ss) = ss
  tail_inner (one m ss) = ss

  -- ---- how high it is
  abbrev mutual
    pub tree_height : MessageTree W → ℕ
    tree_height (message_tree o ss) = inner_height ss + 1

    pub inner_height : InnerMembers W → ℕ
    inner_height no_inner = 0
    inner_height (many ks ss) = max (children_height ks) (inner_height ss)
    inner_height (one m ss) = max (maybe_height m) (inner_height ss)

    pub children_height : TreeList W → ℕ
    children_height no_trees = 0
    children_height (first_tree t ks) = max (tree_height t) (children_height ks)

    pub maybe_height : Maybe W → ℕ
    maybe_height no_tree = 0
    maybe_height (some_tree t) = tree_height t

  pub head_many_low : (ss : InnerMembers W) → children_height (head_many ss) ≤ inner_height ss
  head_many_low no_inner = omega arith
  head_many_low (many ks ss) = omega arith
  head_many_low (one m ss) = omega arith

  pub head_one_low : (ss : InnerMembers W) → maybe_height (head_one ss) ≤ inner_height ss
  head_one_low no_inner = omega arith
  head_one_low (many ks ss) = omega arith
  head_one_low (one m ss) = omega arith

  pub tail_low : (ss : InnerMembers W) → inner_height (tail_inner ss) ≤ inner_height ss
  tail_low no_inner = omega arith
  tail_low (many ks ss) = omega arith
  tail_low (one m ss) = omega arith

  pub tree_low : (ts : List (MessageTree W)) (i : ℕ) (x : MessageTree W) → i < length ts → tree_height (get_or ts i x) ≤ children_height (of_list ts)
  tree_low [] i x lt = absurd (omega (arith, lt))
  tree_low (t ∷ ts) zero x lt = omega arith
  tree_low (t ∷ ts) (suc i) x lt = omega (arith, tree_low ts i x (omega (arith, lt)))

  pub most-of_list : (ts : List (MessageTree W)) → most (λ k. tree_height k + 1) ts ≤ children_height (of_list ts) + 1
  most-of_list [] = omega arith
  most-of_list (t ∷ ts) = omega (arith, most-of_list ts)

-- ---- how the logic stores it
module _ {W : Type 0} (own : Coded W) where
  abbrev mutual
    pub tree_code : MessageTree W → Gv
    tree_code (message_tree o ss) = gcons (own.code o) (inner_code ss)

    pub inner_code : InnerMembers W → Gv
    inner_code no_inner = gnil
    inner_code (many ks ss) = gcons (gcons (gnum 0) (children_code ks)) (inner_code ss)
    inner_code (one m ss) = gcons (gcons (gnum 1) (maybe_code m)) (inner_code ss)

    pub children_code : TreeList W → Gv
    children_code no_trees = gnil
    children_code (first_tree t ks) = gcons (tree_code t) (children_code ks)

    pub maybe_code : Maybe W → Gv
    maybe_code no_tree = gnil
    maybe_code (some_tree t) = gcons (tree_code t) gnil

  mutual
    pub tree_inj : (x y : MessageTree W) → tree_code x ≡ tree_code y → x ≡ y
    tree_inj (message_tree o ns) (message_tree p ms) h = λ i. message_tree (own.inj o p (ap stored_head h) i) (inner_inj ns ms (ap stored_tail h) i)

    pub inner_inj : (x y : InnerMembers W) → inner_code x ≡ inner_code y → x ≡ y
    inner_inj no_inner no_inner h = refl
    inner_inj no_inner (many u ms) h = cc
    inner_inj no_inner (one u ms) h = cc
    inner_inj (many t ns) no_inner h = cc
    inner_inj (one t ns) no_inner h = cc
    inner_inj (many t ns) (one u ms) h = let k = ap (λ z. stored_head (stored_head z)) h in cc
    inner_inj (one t ns) (many u ms) h = let k = ap (λ z. stored_head (stored_head z)) h in cc
    inner_inj (many t ns) (many u ms) h = λ i. many (children_inj t u (ap (λ z. stored_tail (stored_head z)) h) i) (inner_inj ns ms (ap stored_tail h) i)
    inner_inj (one t ns) (one u ms) h = λ i. one (maybe_inj t u (ap (λ z. stored_tail (stored_head z)) h) i) (inner_inj ns ms (ap stored_tail h) i)

    pub children_inj : (x y : TreeList W) → children_code x ≡ children_code y → x ≡ y
    children_inj no_trees no_trees h = refl
    children_inj no_trees (first_tree u ms) h = cc
    children_inj (first_tree t ns) no_trees h = cc
    children_inj (first_tree t ns) (first_tree u ms) h = λ i. first_tree (tree_inj t u (ap stored_head h) i) (children_inj ns ms (ap stored_tail h) i)

    pub maybe_inj : (x y : Maybe W) → maybe_code x ≡ maybe_code y → x ≡ y
    maybe_inj no_tree no_tree h = refl
    maybe_inj no_tree (some_tree u) h = cc
    maybe_inj (some_tree t) no_tree h = cc
    maybe_inj (some_tree t) (some_tree u) h = ap some_tree (tree_inj t u (ap stored_head h))

  abbrev pub coded_tree : Coded (MessageTree W)
  coded_tree = record { code = tree_code; inj = tree_inj }
