-- Two ordered maps that find the same pairs are walked alike.
use Rattle.std.proofs.Common.{◌≡◌, ◌⊎◌, inl, inr, Bool, true, false, cond, List, [], ◌∷◌, Option, Some, None, map, ap, refl, subst, sym, ◌∙◌}
use Rattle.std.specs.Cmp.{IsTotalOrder, eq_by_cmp_equiv}
use Rattle.std.specs.Map.{keys_of, lookup, lookup_entry}
use Rattle.std.specs.Ordering.{eq_by_cmp, is_eq, ordering_reverse}
use Rattle.std.specs.List.Sorted.{IsStrictlySortedBy}
use Rattle.std.specs.BTreeMap.{is_at}
use Rattle.std.specs.declared.cmp.Ordering.{Ordering}
use Rattle.std.specs.declared.cmp.Ordering.TheVariants.{Less, Equal, Greater}
use Rattle.std.proofs.lemmas.Bool.{cases_Bool}
use Rattle.std.proofs.lemmas.Map.{lookup-none}
use Rattle.std.proofs.lemmas.Map.Entries.{lookup_head, lookup_tail, none_below_head, none_past_head}
use Rattle.std.proofs.lemmas.Map.Keys.{IsDistinct-from_sorted, sorted_tail}
use Rattle.std.proofs.lemmas.Option.{none-some, same_Some}
use Rattle.buffa_map.specs.Pairs.{SamePairs, means}

module _ {K X : Type 0} {cmp : K → K → Ordering} (order : IsTotalOrder cmp) where
  abbrev find : List (K × X) → K → Option X
  find es q = lookup (is_at (cmp q)) es

  at_head : (x : K × X) (xs : List (K × X)) → find (x ∷ xs) x.0 ≡ Some x.1
  at_head x xs = lookup_head (is_at (cmp x.0)) x xs ((eq_by_cmp_equiv order).refl x.0)

  past_head : (q : K) (x : K × X) (xs : List (K × X)) → IsStrictlySortedBy cmp (keys_of (x ∷ xs)) → eq_by_cmp cmp q x.0 ≡ true → find xs q ≡ None
  past_head q x xs s t = lookup-none (is_at (cmp q)) xs (none_past_head (eq_by_cmp_equiv order) q x xs (IsDistinct-from_sorted cmp _ s) t)

  module _ (x y : K × X) (xs ys : List (K × X)) (s : IsStrictlySortedBy cmp (keys_of (x ∷ xs))) (t : IsStrictlySortedBy cmp (keys_of (y ∷ ys))) (h : (q : K) → find (x ∷ xs) q ≡ find (y ∷ ys) q) where
    by_heads : (r : Ordering) → cmp x.0 y.0 ≡ r → cmp x.0 y.0 ≡ Equal
    by_heads Less p = absurd (none-some x.1 (sym (lookup-none _ (y ∷ ys) (none_below_head order x.0 y ys t p)) ∙ sym (h x.0) ∙ at_head x xs))
    by_heads Equal p = p
    by_heads Greater p = absurd (none-some y.1 (sym (lookup-none _ (x ∷ xs) (none_below_head order y.0 x xs s (order.antisymm y.0 x.0 ∙ ap ordering_reverse p))) ∙ h y.0 ∙ at_head y ys))

    heads : cmp x.0 y.0 ≡ Equal
    heads = by_heads (cmp x.0 y.0) refl

    value : x.1 ≡ y.1
    value = same_Some x.1 y.1 (sym (at_head x xs) ∙ h x.0 ∙ lookup_head (is_at (cmp x.0)) y ys (ap is_eq heads))

    tails_by : (q : K) → (eq_by_cmp cmp q x.0 ≡ true) ⊎ (eq_by_cmp cmp q x.0 ≡ false) → eq_by_cmp cmp q y.0 ≡ eq_by_cmp cmp q x.0 → find xs q ≡ find ys q
    tails_by q (inl b) e = past_head q x xs s b ∙ sym (past_head q y ys t (e ∙ b))
    tails_by q (inr b) e = sym (lookup_tail (is_at (cmp q)) x xs b) ∙ h q ∙ lookup_tail (is_at (cmp q)) y ys (e ∙ b)

    tails : (q : K) → find xs q ≡ find ys q
    tails q = tails_by q (cases_Bool (eq_by_cmp cmp q x.0)) ((eq_by_cmp_equiv order).symm q y.0 ∙ sym ((eq_by_cmp_equiv order).congr x.0 y.0 q (ap is_eq heads)) ∙ (eq_by_cmp_equiv order).symm x.0 q)

  abbrev values : List (K × X) → List X
  values es = map (λ e. e.1) es

  pub one_order : (es fs : List (K × X)) → IsStrictlySortedBy cmp (keys_of es) → IsStrictlySortedBy cmp (keys_of fs) → ((q : K) → find es q ≡ find fs q) → values es ≡ values fs
  one_order [] [] s t h = refl
  one_order [] (y ∷ ys) s t h = absurd (none-some y.1 (h y.0 ∙ at_head y ys))
  one_order (x ∷ xs) [] s t h = absurd (none-some x.1 (sym (h x.0) ∙ at_head x xs))
  one_order (x ∷ xs) (y ∷ ys) s t h =
      let rest = one_order xs ys (sorted_tail cmp x.0 (keys_of xs) s) (sorted_tail cmp y.0 (keys_of ys) t) (tails x y xs ys s t h) in
      λ i. value x y xs ys s t h i ∷ rest i

module _ {K V A B : Type 0} (f : K → A) (g : V → B) where
  -- each key with what its pair means
  abbrev reported : List (K × V) → List (K × (A × B))
  reported es = map (λ (e : K × V). (e.0, (f e.0, g e.1))) es

  keys_reported : (es : List (K × V)) → keys_of (reported es) ≡ keys_of es
  keys_reported [] = refl
  keys_reported (e ∷ es) = ap (λ z. e.0 ∷ z) (keys_reported es)

  values_reported : (es : List (K × V)) → map (λ (e : K × (A × B)). e.1) (reported es) ≡ means f g es
  values_reported [] = refl
  values_reported (e ∷ es) = ap (λ (z : List (A × B)). (f e.0, g e.1) ∷ z) (values_reported es)

  found : (cmp : K → K → Ordering) (same : A → A → Bool) → ((a b : K) → eq_by_cmp cmp a b ≡ same (f a) (f b)) → (es : List (K × V)) (q : K) → lookup (is_at (cmp q)) (reported es) ≡ lookup_entry (same (f q)) (means f g es)
  found cmp same respects [] q = refl
  found cmp same respects (e ∷ es) q = let rest = found cmp same respects es q in λ i. cond (respects q e.0 i) (Some (f e.0, g e.1)) (rest i)

  pub one_walk : {cmp : K → K → Ordering} (same : A → A → Bool) → IsTotalOrder cmp → ((a b : K) → eq_by_cmp cmp a b ≡ same (f a) (f b)) → (es fs : List (K × V)) →
      IsStrictlySortedBy cmp (keys_of es) → IsStrictlySortedBy cmp (keys_of fs) → SamePairs same (means f g es) (means f g fs) → means f g es ≡ means f g fs
  one_walk {cmp = cmp} same order respects es fs s t h =
      sym (values_reported es)
      ∙ one_order order (reported es) (reported fs) (subst (IsStrictlySortedBy cmp) (sym (keys_reported es)) s) (subst (IsStrictlySortedBy cmp) (sym (keys_reported fs)) t)
      (λ q. found cmp same respects es q ∙ h (f q) ∙ sym (found cmp same respects fs q))
      ∙ values_reported fs
