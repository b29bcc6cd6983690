-- Whether all that is required is there in the messages of a list or a map, told by those that are left of a walk.
use Rattle.std.specs.Prelude.{◌≡◌, ◌≤◌, ◌<◌, ℕ, suc, false, List, [], ◌∷◌, length, refl}
use Rattle.std.proofs.Common.{arith, get_or, sym, ◌∙◌}
use Rattle.std.specs.List.{AllByRecursion, Contains, list_all}
use Rattle.std.specs.Map.{values_of}
use Rattle.std.proofs.lemmas.List.Folds.{list_all_at}
use Rattle.buffa_map.specs.Pairs.{means}
use Rattle.buffa_recursive.specs.ConditionsInside.{AskingOf}
use Rattle.buffa_recursive.specs.RecursiveSchema.{RecursiveSchema}
use Rattle.buffa_recursive.specs.facts.InitializedFacts.{pairs_by_meaning}

-- messages of a map are no higher than it
pub low_pairs : {J K X : Type 0} (o : RecursiveSchema X) (key : J → K) (ps : List (J × X)) →
    AllByRecursion (λ p. o.height p.1 ≤ o.pairs_height (o.of_pairs (means key (λ m. m) ps))) ps
low_pairs {J} {K} {X} o key all = each all (λ x is. o.pair_low (means key (λ m. m) all) x is)
  where
    each : (ps : List (J × X)) → ((x : X) → Contains (values_of (means key (λ m. m) ps)) x → o.height x ≤ o.pairs_height (o.of_pairs (means key (λ m. m) all))) →
        AllByRecursion (λ p. o.height p.1 ≤ o.pairs_height (o.of_pairs (means key (λ m. m) all))) ps
    each [] low = tt
    each (p ∷ ps) low = (low p.1 (0, omega arith, refl), each ps (λ x is. low x (suc is.0, omega (arith, is.1), is.2)))

-- what is asked of a map is asked of each message in it
pub mapped_all : {J K X : Type 0} (o : RecursiveSchema X) (a : AskingOf o) (key : J → K) (ps : List (J × X)) → a.mapped (o.of_pairs (means key (λ m. m) ps)) ≡ list_all (λ p. a.whole p.1) ps
mapped_all o a key ps = a.mapped_is (means key (λ m. m) ps) ∙ pairs_by_meaning (λ m. m) a.whole key ps

-- a message in a list lacks something
pub listed_lacks : {X : Type 0} (o : RecursiveSchema X) (a : AskingOf o) (xs : List X) (i : ℕ) (x : X) → i < length xs → a.whole (get_or xs i x) ≡ false → false ≡ a.listed (o.of_list xs)
listed_lacks o a xs i x lt lacks = sym (a.listed_is xs ∙ list_all_at a.whole xs i x lt lacks)
