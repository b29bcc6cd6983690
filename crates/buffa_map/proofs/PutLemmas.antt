-- Putting a pair into a list of pairs, and into an ordered map.
use Rattle.std.proofs.Common.{◌≡◌, Bool, cond, List, [], ◌∷◌, Option, Some, None, refl, sym, ◌∙◌, ap, arith}
use Rattle.std.specs.Cmp.{IsEquivalence, IsTotalOrder, eq_by_cmp_equiv}
use Rattle.std.specs.Ordering.{eq_by_cmp, is_eq}
use Rattle.std.specs.Map.{lookup_entry, keys_of}
use Rattle.std.specs.List.Sorted.{IsStrictlySortedBy}
use Rattle.std.specs.BTreeMap.{insert_entry}
use Rattle.std.specs.declared.cmp.Ordering.{Ordering}
use Rattle.std.specs.declared.cmp.Ordering.TheVariants.{Less, Equal, Greater}
use Rattle.std.proofs.lemmas.Map.{NonePasses}
use Rattle.std.proofs.lemmas.Map.Entries.{none_below_head}
use Rattle.std.proofs.lemmas.Map.Keys.{sorted_tail}
use Rattle.buffa_map.specs.Pairs.{put, SamePairs}

-- the key of the pair that was found, or k
abbrev pub key_or : {K V : Type 0} → K → Option (K × V) → K
key_or k None = k
key_or k (Some e) = e.0

pub lookup_entry-put : {K V : Type 0} {eq : K → K → Bool} → IsEquivalence eq → (es : List (K × V)) (k : K) (v : V) (q : K) →
    lookup_entry (eq q) (put eq es k v) ≡ cond (eq q k) (Some (key_or k (lookup_entry (eq k) es), v)) (lookup_entry (eq q) es)
lookup_entry-put {eq = eq} laws [] k v q = refl
lookup_entry-put {eq = eq} laws (e ∷ es) k v q = grind (arith, laws.congr k e.0 q, laws.congr q k e.0, laws.symm q k, laws.symm q e.0, lookup_entry-put laws es k v q)

-- putting keeps "one map"
pub SamePairs-put : {K V : Type 0} {eq : K → K → Bool} → IsEquivalence eq → (m n : List (K × V)) (k : K) (v : V) → SamePairs eq m n → SamePairs eq (put eq m k v) (put eq n k v)
SamePairs-put {eq = eq} laws m n k v same q =
    rw (lookup_entry-put laws m k v q, lookup_entry-put laws n k v q, same q, same k) refl

-- the ordered map's insertion puts
pub lookup_entry-none : {K V : Type 0} (test : K → Bool) (es : List (K × V)) → NonePasses test es → lookup_entry test es ≡ None
lookup_entry-none test [] h = refl
lookup_entry-none test (e ∷ es) h = rw h.0 (lookup_entry-none test es h.1)

inserts : {K V : Type 0} {cmp : K → K → Ordering} → IsTotalOrder cmp → (e : K × V) (es : List (K × V)) (k : K) (v : V) (q : K) → IsStrictlySortedBy cmp (e.0 ∷ keys_of es) → (r : Ordering) → cmp k e.0 ≡ r →
    lookup_entry (eq_by_cmp cmp q) (insert_entry cmp es k v) ≡ cond (eq_by_cmp cmp q k) (Some (key_or k (lookup_entry (eq_by_cmp cmp k) es), v)) (lookup_entry (eq_by_cmp cmp q) es) →
    lookup_entry (eq_by_cmp cmp q) (insert_entry cmp (e ∷ es) k v) ≡ cond (eq_by_cmp cmp q k) (Some (key_or k (lookup_entry (eq_by_cmp cmp k) (e ∷ es)), v)) (lookup_entry (eq_by_cmp cmp q) (e ∷ es))
inserts {cmp = cmp} o e es k v q s Less h i =
    let none : lookup_entry (eq_by_cmp cmp k) es ≡ None = lookup_entry-none _ es (none_below_head o k e es s h).1 in
    rw (h, none) refl
inserts {cmp = cmp} o e es k v q s Equal h i =
    let laws : IsEquivalence (eq_by_cmp cmp) = eq_by_cmp_equiv o in
    let same : eq_by_cmp cmp q k ≡ eq_by_cmp cmp q e.0 = laws.symm q k ∙ laws.congr k e.0 q (ap is_eq h) ∙ laws.symm e.0 q in
    rw (h, same) (grind arith)
inserts {cmp = cmp} o e es k v q s Greater h i =
    let laws : IsEquivalence (eq_by_cmp cmp) = eq_by_cmp_equiv o in
    rw h (grind (arith, i, laws.congr q k e.0, ap is_eq h))

pub lookup_entry-insert_entry : {K V : Type 0} {cmp : K → K → Ordering} → IsTotalOrder cmp → (es : List (K × V)) (k : K) (v : V) (q : K) → IsStrictlySortedBy cmp (keys_of es) →
    lookup_entry (eq_by_cmp cmp q) (insert_entry cmp es k v) ≡ cond (eq_by_cmp cmp q k) (Some (key_or k (lookup_entry (eq_by_cmp cmp k) es), v)) (lookup_entry (eq_by_cmp cmp q) es)
lookup_entry-insert_entry o [] k v q s = refl
lookup_entry-insert_entry {cmp = cmp} o (e ∷ es) k v q s = inserts o e es k v q s (cmp k e.0) refl (lookup_entry-insert_entry o es k v q (sorted_tail cmp e.0 (keys_of es) s))

pub SamePairs-insert_entry : {K V : Type 0} {cmp : K → K → Ordering} → IsTotalOrder cmp → (m : List (K × V)) (k : K) (v : V) → IsStrictlySortedBy cmp (keys_of m) → SamePairs (eq_by_cmp cmp) (put (eq_by_cmp cmp) m k v) (insert_entry cmp m k v)
SamePairs-insert_entry o m k v s q = lookup_entry-put (eq_by_cmp_equiv o) m k v q ∙ sym (lookup_entry-insert_entry o m k v q s)
