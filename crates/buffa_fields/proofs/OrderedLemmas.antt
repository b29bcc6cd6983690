-- Keys that are in order mean keys in order.
use Rattle.std.proofs.Common.{◌≡◌, List, [], ◌∷◌, subst}
use Rattle.std.specs.List.Sorted.{IsStrictlySortedBy}
use Rattle.std.specs.Map.{keys_of}
use Rattle.std.specs.declared.cmp.Ordering.{Ordering}
use Rattle.std.specs.declared.cmp.Ordering.TheVariants.{Less}
use Rattle.buffa_map.specs.Pairs.{means}
use Rattle.buffa_map.proofs.MeaningLemmas.{means-all}
use Rattle.buffa_fields.specs.OrderedMaps.{KeysAscend}

module _ {K V A B : Type 0} (order : A → A → Ordering) (f : K → A) (g : V → B) where
  pub sorted_means : (es : List (K × V)) → IsStrictlySortedBy (λ x y. order (f x) (f y)) (keys_of es) → KeysAscend order (means f g es)
  unfolding IsStrictlySortedBy
  sorted_means [] h = tt
  sorted_means (e ∷ es) h = (means-all f g (λ y. order (f e.0) y ≡ Less) es h.0, sorted_means es h.1)

  pub means_ascend : (cmp : K → K → Ordering) → ((a b : K) → cmp a b ≡ order (f a) (f b)) → (es : List (K × V)) → IsStrictlySortedBy cmp (keys_of es) → KeysAscend order (means f g es)
  means_ascend cmp compares es h = sorted_means es (subst (λ (c : K → K → Ordering). IsStrictlySortedBy c (keys_of es)) (λ i x y. compares x y i) h)
