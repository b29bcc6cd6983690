-- Pairs in the order of their keys: an insertion keeps it, and what their look-ups answer says which they are.
use Rattle.std.proofs.Common.{◌≡◌, refl, sym, ap, subst, ◌∙◌, List, [], ◌∷◌, ◌++◌, map}
use Rattle.std.specs.Cmp.{IsTotalOrder}
use Rattle.std.specs.List.{AllByRecursion}
use Rattle.std.specs.List.Sorted.{IsStrictlySortedBy}
use Rattle.std.specs.Map.{keys_of, lookup_entry}
use Rattle.std.specs.BTreeMap.{insert_entry}
use Rattle.std.specs.Ordering.{eq_by_cmp, match_ordering, ordering_reverse}
use Rattle.std.specs.declared.cmp.Ordering.{Ordering}
use Rattle.std.specs.declared.cmp.Ordering.TheVariants.{Less, Equal, Greater}
use Rattle.std.proofs.lemmas.List.{map-append}
use Rattle.buffa_bytes.proofs.ListLemmas.{AllByRecursion-middle, AllByRecursion-weaker}
use Rattle.buffa_map.proofs.HashedLemmas.{beside, keys-beside, lookup-beside, values-beside}
use Rattle.buffa_map.proofs.OrderedLemmas.{one_order}

module _ {K : Type 0} {R : K → K → Ordering} (o : IsTotalOrder R) where
  below_all : (x y : K) (ks : List K) → R x y ≡ Less → AllByRecursion (λ z. R y z ≡ Less) ks → AllByRecursion (λ z. R x z ≡ Less) ks
  below_all x y ks h a = AllByRecursion-weaker (λ z. R y z ≡ Less) (λ z. R x z ≡ Less) (λ z b. o.trans x y z h b) ks a

module _ {K V : Type 0} {R : K → K → Ordering} (o : IsTotalOrder R) where
  -- ---- insertion
  below_put : (x k : K) (v : V) (es : List (K × V)) → AllByRecursion (λ z. R x z ≡ Less) (keys_of es) → R x k ≡ Less → AllByRecursion (λ z. R x z ≡ Less) (keys_of (insert_entry R es k v))
  below_put x k v [] a h = (h, tt)
  below_put x k v (e ∷ es) a h = by (R k e.0) (below_put x k v es a.1 h)
    where
      by : (r : Ordering) → AllByRecursion (λ z. R x z ≡ Less) (keys_of (insert_entry R es k v)) → AllByRecursion (λ z. R x z ≡ Less) (keys_of (match_ordering r ((k, v) ∷ e ∷ es) ((e.0, v) ∷ es) (e ∷ insert_entry R es k v)))
      by Less i = (h, a)
      by Equal i = a
      by Greater i = (a.0, i)

  pub sorted_put : (es : List (K × V)) (k : K) (v : V) → IsStrictlySortedBy R (keys_of es) → IsStrictlySortedBy R (keys_of (insert_entry R es k v))
  unfolding IsStrictlySortedBy
  sorted_put [] k v s = (tt, tt)
  sorted_put (e ∷ es) k v s = by (R k e.0) refl (sorted_put es k v s.1)
    where
      by : (r : Ordering) → R k e.0 ≡ r → IsStrictlySortedBy R (keys_of (insert_entry R es k v)) → IsStrictlySortedBy R (keys_of (match_ordering r ((k, v) ∷ e ∷ es) ((e.0, v) ∷ es) (e ∷ insert_entry R es k v)))
      by Less p i = ((p, below_all o k e.0 (keys_of es) p s.0), s)
      by Equal p i = s
      by Greater p i = (below_put e.0 k v es s.0 (o.antisymm e.0 k ∙ ap ordering_reverse p), i)

  -- the last key goes to the end
  all_before : (P : K → Type 0) (es : List (K × V)) (k : K) (v : V) (more : List (K × V)) → AllByRecursion P (keys_of (es ++ (k, v) ∷ more)) → P k
  all_before P es k v more a = AllByRecursion-middle P (keys_of es) k (keys_of more) (subst (AllByRecursion P) (map-append (λ (e : K × V). e.0) es ((k, v) ∷ more)) a)

  pub put_last : (es : List (K × V)) (k : K) (v : V) (more : List (K × V)) → IsStrictlySortedBy R (keys_of (es ++ (k, v) ∷ more)) → insert_entry R es k v ≡ es ++ (k, v) ∷ []
  unfolding IsStrictlySortedBy
  put_last [] k v more s = refl
  put_last (e ∷ es) k v more s =
      let greater : R k e.0 ≡ Greater = o.antisymm k e.0 ∙ ap ordering_reverse (all_before (λ y. R e.0 y ≡ Less) es k v more s.0) in
      ap (λ r. match_ordering r ((k, v) ∷ e ∷ es) ((e.0, v) ∷ es) (e ∷ insert_entry R es k v)) greater ∙ ap (λ xs. e ∷ xs) (put_last es k v more s.1)

  -- two lists in order with the same look-ups are one
  pub same_sorted : (xs ys : List (K × V)) → IsStrictlySortedBy R (keys_of xs) → IsStrictlySortedBy R (keys_of ys) → ((q : K) → lookup_entry (eq_by_cmp R q) xs ≡ lookup_entry (eq_by_cmp R q) ys) → xs ≡ ys
  same_sorted xs ys s t h =
      sym (values-beside xs)
      ∙ one_order o (map beside xs) (map beside ys) (subst (IsStrictlySortedBy R) (sym (keys-beside xs)) s) (subst (IsStrictlySortedBy R) (sym (keys-beside ys)) t)
      (λ q. lookup-beside (eq_by_cmp R q) xs ∙ h q ∙ sym (lookup-beside (eq_by_cmp R q) ys))
      ∙ values-beside ys
