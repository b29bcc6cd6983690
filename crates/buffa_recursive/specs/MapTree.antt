-- A map of the message's own type: its keys are what the message has of its own, its values the messages inside.
-- Source: the protobuf encoding guide, "Maps" and "Submessages".
use Rattle.std.specs.Prelude.{◌+◌, ◌≡◌, ◌≤◌, List, [], ◌∷◌, refl}
use Rattle.std.specs.List.{Contains}
use Rattle.std.specs.Map.{values_of}
use Rattle.std.proofs.Common.{ap, arith, zero, suc}
use Rattle.buffa_map.specs.Pairs.{means}
use Rattle.buffa_recursive.specs.MapKeys.{Keys}
use denote.Param.Weighed.{most}
use Rattle.buffa_fields.specs.Schema.{Shape}
use Rattle.buffa_recursive.specs.MessageTree.{TreeList, MessageTree, first_tree, children_height, tree_height, no_trees}
use Rattle.buffa_recursive.specs.MapShape.{pairs_shape}
use Rattle.buffa_recursive.specs.InnerMessages.{Semantics, lossless}

-- the pairs of keys and values, and back
abbrev pub child_pairs : {K W : Type 0} → List K → TreeList W → List (K × MessageTree W)
child_pairs [] ks = []
child_pairs (j ∷ js) no_trees = []
child_pairs (j ∷ js) (first_tree t ks) = (j, t) ∷ child_pairs js ks

abbrev pub keys_in : {K W : Type 0} → List (K × MessageTree W) → List K
keys_in [] = []
keys_in (p ∷ ps) = p.0 ∷ keys_in ps

abbrev pub values_in : {K W : Type 0} → List (K × MessageTree W) → TreeList W
values_in [] = no_trees
values_in (p ∷ ps) = first_tree p.1 (values_in ps)

abbrev pub pairs_in : {K W : Type 0} → List (K × MessageTree W) → List K × TreeList W
pairs_in ps = (keys_in ps, values_in ps)

pub pairs_again : {K W : Type 0} (ps : List (K × MessageTree W)) → child_pairs (keys_in ps) (values_in ps) ≡ ps
pairs_again [] = refl
pairs_again {K} {W} (p ∷ ps) = ap (λ (qs : List (K × MessageTree W)). p ∷ qs) (pairs_again ps)

pub pair_low : {K W : Type 0} (ps : List (K × MessageTree W)) (x : MessageTree W) → Contains (values_of ps) x → tree_height x ≤ children_height (values_in ps)
pair_low [] x is = absurd (omega (arith, is.1))
pair_low (p ∷ ps) x (zero, l, e) = let same = ap tree_height e in omega (arith, same)
pair_low (p ∷ ps) x (suc i, l, e) = let k = pair_low ps x (i, omega (arith, l), e) in omega (arith, k)

-- by its keys and values, of which there are as many
abbrev pub pairs_by_semantics : {K W : Type 0} → Keys K → Semantics (MessageTree W) → Shape (List K × TreeList W) (List K × TreeList W)
pairs_by_semantics keys w = lossless pairs_in (λ a. child_pairs a.0 a.1) (pairs_shape keys w)

-- those of a map are no higher than what holds them
pub most-of_map : {A K W : Type 0} (f : A → K) (ps : List (A × MessageTree W)) → most (λ t. tree_height t + 1) (values_of ps) ≤ children_height (values_in (means f (λ m. m) ps)) + 1
most-of_map f [] = omega arith
most-of_map f (p ∷ ps) = omega (arith, most-of_map f ps)
