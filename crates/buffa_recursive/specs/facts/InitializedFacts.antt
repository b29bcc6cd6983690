-- What is proved of whether all that is required is there: of lists and maps of messages, and by what messages mean.
use Rattle.std.specs.Prelude.{◌≡◌, ◌&&◌, Bool, List, [], ◌∷◌, map, refl}
use Rattle.std.proofs.Common.{ap}
use Rattle.std.specs.List.{list_all}
use Rattle.buffa_map.specs.Pairs.{means}
use Rattle.buffa_recursive.specs.MessageTree.{MessageTree, of_list}
use Rattle.buffa_recursive.specs.MapTree.{values_in}
use Rattle.buffa_recursive.specs.Initialized.{trees_have, tree_has}

-- ---- messages of the type itself
module _ {W : Type 0} (asked : MessageTree W → Bool) where
  pub each_has : (ts : List (MessageTree W)) → trees_have asked (of_list ts) ≡ list_all (tree_has asked) ts
  each_has [] = refl
  each_has (t ∷ ts) = ap (λ b. tree_has asked t && b) (each_has ts)

  pub each_value_has : {K : Type 0} (ps : List (K × MessageTree W)) → trees_have asked (values_in ps) ≡ list_all (λ p. tree_has asked p.1) ps
  each_value_has [] = refl
  each_value_has (p ∷ ps) = ap (λ b. tree_has asked p.1 && b) (each_value_has ps)

-- ---- messages of another type: what they mean is asked
module _ {M X : Type 0} (mean : M → X) (f : X → Bool) where
  pub list_by_meaning : (ms : List M) → list_all f (map mean ms) ≡ list_all (λ m. f (mean m)) ms
  list_by_meaning [] = refl
  list_by_meaning (m ∷ ms) = ap (λ b. f (mean m) && b) (list_by_meaning ms)

  pub pairs_by_meaning : {K J : Type 0} (key : K → J) (ps : List (K × M)) → list_all (λ p. f p.1) (means key mean ps) ≡ list_all (λ p. f (mean p.1)) ps
  pairs_by_meaning key [] = refl
  pairs_by_meaning key (p ∷ ps) = ap (λ b. f (mean p.1) && b) (pairs_by_meaning key ps)
