-- Every map has a list of its pairs in the order of their keys.
use Rattle.std.proofs.Common.{◌≡◌, Bool, true, false, cond, List, [], ◌∷◌, Some, refl, sym, ap, ◌∙◌, arith}
use Rattle.std.specs.Cmp.{IsTotalOrder, eq_by_cmp_equiv}
use Rattle.std.specs.List.{AllByRecursion}
use Rattle.std.specs.List.Sorted.{IsStrictlySortedBy}
use Rattle.std.specs.Map.{keys_of, lookup_entry}
use Rattle.std.specs.Ordering.{eq_by_cmp, is_eq, match_ordering, ordering_reverse}
use Rattle.std.specs.declared.cmp.Ordering.{Ordering}
use Rattle.std.specs.declared.cmp.Ordering.TheVariants.{Less, Equal, Greater}
use Rattle.std.proofs.lemmas.Map.Keys.{IsDistinct-from_sorted}
use Rattle.buffa_bytes.proofs.ListLemmas.{AllByRecursion-weaker}
use Rattle.buffa_map.specs.Pairs.{ListsOnce}
use Rattle.buffa_map.specs.Encoding.{AllHold}

cond_twice : {A : Type 0} (b c : Bool) (x y z : A) → b ≡ c → cond b x z ≡ cond b x (cond c y z)
cond_twice true c x y z h = refl
cond_twice false c x y z h = ap (λ t. cond t y z) h

module _ {K V : Type 0} (cmp : K → K → Ordering) where
  -- a pair put into its place, where the one of an equal key goes
  abbrev insert : K × V → List (K × V) → List (K × V)
  insert p [] = p ∷ []
  insert p (e ∷ es) = match_ordering (cmp p.0 e.0) (p ∷ e ∷ es) (p ∷ es) (e ∷ insert p es)

  abbrev pub ordered : List (K × V) → List (K × V)
  ordered [] = []
  ordered (p ∷ m) = insert p (ordered m)

  below_insert : (x : K) (p : K × V) (es : List (K × V)) → cmp x p.0 ≡ Less → AllByRecursion (λ y. cmp x y ≡ Less) (keys_of es) → AllByRecursion (λ y. cmp x y ≡ Less) (keys_of (insert p es))
  below_insert x p [] h k = (h, tt)
  below_insert x p (e ∷ es) h k = by (cmp p.0 e.0) (below_insert x p es h k.1)
    where
      by : (r : Ordering) → AllByRecursion (λ y. cmp x y ≡ Less) (keys_of (insert p es)) → AllByRecursion (λ y. cmp x y ≡ Less) (keys_of (match_ordering r (p ∷ e ∷ es) (p ∷ es) (e ∷ insert p es)))
      by Less i = (h, k)
      by Equal i = (h, k.1)
      by Greater i = (k.0, i)

module _ {K V : Type 0} {cmp : K → K → Ordering} (o : IsTotalOrder cmp) where
  insert_sorted : (p : K × V) (es : List (K × V)) → IsStrictlySortedBy cmp (keys_of es) → IsStrictlySortedBy cmp (keys_of (insert cmp p es))
  unfolding IsStrictlySortedBy
  insert_sorted p [] s = (tt, tt)
  insert_sorted p (e ∷ es) s = by (cmp p.0 e.0) refl (insert_sorted p es s.1)
    where
      by : (r : Ordering) → cmp p.0 e.0 ≡ r → IsStrictlySortedBy cmp (keys_of (insert cmp p es)) → IsStrictlySortedBy cmp (keys_of (match_ordering r (p ∷ e ∷ es) (p ∷ es) (e ∷ insert cmp p es)))
      by Less h i = ((h, AllByRecursion-weaker _ _ (λ y l. o.trans p.0 e.0 y h l) (keys_of es) s.0), s)
      by Equal h i = (AllByRecursion-weaker _ _ (λ y l. o.congr p.0 e.0 y h ∙ l) (keys_of es) s.0, s.1)
      by Greater h i = (below_insert cmp e.0 p es (o.antisymm e.0 p.0 ∙ ap ordering_reverse h) s.0, i)

  found : (p : K × V) (es : List (K × V)) (q : K) → lookup_entry (eq_by_cmp cmp q) (insert cmp p es) ≡ cond (eq_by_cmp cmp q p.0) (Some p) (lookup_entry (eq_by_cmp cmp q) es)
  found p [] q = refl
  found p (e ∷ es) q = by (cmp p.0 e.0) refl (found p es q)
    where
      by : (r : Ordering) → cmp p.0 e.0 ≡ r → lookup_entry (eq_by_cmp cmp q) (insert cmp p es) ≡ cond (eq_by_cmp cmp q p.0) (Some p) (lookup_entry (eq_by_cmp cmp q) es) →
          lookup_entry (eq_by_cmp cmp q) (match_ordering r (p ∷ e ∷ es) (p ∷ es) (e ∷ insert cmp p es)) ≡ cond (eq_by_cmp cmp q p.0) (Some p) (lookup_entry (eq_by_cmp cmp q) (e ∷ es))
      by Less h i = refl
      by Equal h i =
          let laws = eq_by_cmp_equiv o in
          cond_twice (eq_by_cmp cmp q p.0) (eq_by_cmp cmp q e.0) (Some p) (Some e) (lookup_entry (eq_by_cmp cmp q) es) (laws.symm q p.0 ∙ laws.congr p.0 e.0 q (ap is_eq h) ∙ laws.symm e.0 q)
      by Greater h i =
          let laws = eq_by_cmp_equiv o in
          grind (arith, i, laws.congr q p.0 e.0, ap is_eq h)

  pub ordered_sorted : (m : List (K × V)) → IsStrictlySortedBy cmp (keys_of (ordered cmp m))
  unfolding IsStrictlySortedBy
  ordered_sorted [] = tt
  ordered_sorted (p ∷ m) = insert_sorted p (ordered cmp m) (ordered_sorted m)

  ordered_same : (m : List (K × V)) (q : K) → lookup_entry (eq_by_cmp cmp q) m ≡ lookup_entry (eq_by_cmp cmp q) (ordered cmp m)
  ordered_same [] q = refl
  ordered_same (p ∷ m) q = ap (cond (eq_by_cmp cmp q p.0) (Some p)) (ordered_same m q) ∙ sym (found p (ordered cmp m) q)

  -- the list has each pair of the map once
  pub ordered_once : (m : List (K × V)) → ListsOnce (eq_by_cmp cmp) m (ordered cmp m)
  ordered_once m = (IsDistinct-from_sorted cmp (keys_of (ordered cmp m)) (ordered_sorted m), ordered_same m)

-- what holds of the map's pairs holds of the list's
module _ {K V : Type 0} (cmp : K → K → Ordering) (P : K → Type 0) (Q : V → Type 0) where
  insert_holds : (p : K × V) (es : List (K × V)) → P p.0 → Q p.1 → AllHold P Q es → AllHold P Q (insert cmp p es)
  insert_holds p [] a b h = (a, b, tt)
  insert_holds p (e ∷ es) a b h = by (cmp p.0 e.0) (insert_holds p es a b h.2)
    where
      by : (r : Ordering) → AllHold P Q (insert cmp p es) → AllHold P Q (match_ordering r (p ∷ e ∷ es) (p ∷ es) (e ∷ insert cmp p es))
      by Less i = (a, b, h)
      by Equal i = (a, b, h.2)
      by Greater i = (h.0, h.1, i)

  pub ordered_holds : (m : List (K × V)) → AllHold P Q m → AllHold P Q (ordered cmp m)
  ordered_holds [] h = tt
  ordered_holds (p ∷ m) h = insert_holds p (ordered cmp m) h.0 h.1 (ordered_holds m h.2)
