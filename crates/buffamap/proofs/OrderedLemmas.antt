-- A map of texts whose entries are in the order of its keys is a list of its pairs in the order of their bytes.
use Rattle.std.proofs.Common.{◌≡◌, List, [], ◌∷◌, refl, sym, ◌∙◌, ap, subst, Ordering, ℤ, String, string_bytes}
use Rattle.std.specs.Cmp.Lexicographic.{nat_list_cmp_total, texts_ties}
use Rattle.std.specs.Cmp.{eq_by_cmp_equiv}
use Rattle.std.specs.Ordering.{eq_by_cmp, match_ordering}
use Rattle.std.specs.String.{string_cmp}
use Rattle.std.specs.Map.{keys_of}
use Rattle.std.specs.List.{IsDistinct}
use Rattle.std.specs.List.Sorted.{IsStrictlySortedBy}
use Rattle.std.specs.BTreeMap.{insert_entry}
use Rattle.std.specs.declared.cmp.Ordering.TheVariants.{Less, Equal, Greater}
use Rattle.std.proofs.lemmas.Map.Keys.{IsDistinct-from_sorted}
use Rattle.buffa_map.specs.Pairs.{SamePairs}
use Rattle.buffa_map.specs.Pairs as maps
use Rattle.buffa_map.proofs.PutLemmas.{SamePairs-insert_entry, SamePairs-put}
use Rattle.buffa_fields.proofs.OrderedLemmas.{sorted_means}
use Rattle.sample_node.specs.NodeMeaning.{text_cmp}
use Rattle.buffamap.specs.Lines.{ListedInOrder, Pair, pairs_of, with_pair, same_key}
use Rattle.buffa_map.proofs.SortedLemmas.{same_sorted}

-- keys are one key where they are one in the order
pub same_test : eq_by_cmp text_cmp ≡ same_key
same_test = λ i a b. sym (texts_ties a b) i

sorted_texts : {Z : Type 0} (es : List (String Z × ℤ)) → IsStrictlySortedBy string_cmp (keys_of es) → IsStrictlySortedBy text_cmp (keys_of (pairs_of es))
sorted_texts es h = sorted_means text_cmp string_bytes (λ v. v) es h

-- the entries of a map are a list of its pairs in order
pub in_order : {Z : Type 0} (m : List Pair) (es : List (String Z × ℤ)) → IsStrictlySortedBy string_cmp (keys_of es) → SamePairs same_key m (pairs_of es) → ListedInOrder m (pairs_of es)
in_order m es h s =
    let sorted = sorted_texts es h in
    ((subst (λ eq. IsDistinct eq (keys_of (pairs_of es))) same_test (IsDistinct-from_sorted text_cmp (keys_of (pairs_of es)) sorted), s), sorted)

-- an insert, as it is seen by the keys' bytes
pairs_of-insert : {Z : Type 0} (es : List (String Z × ℤ)) (k : String Z) (v : ℤ) → pairs_of (insert_entry string_cmp es k v) ≡ insert_entry text_cmp (pairs_of es) (string_bytes k) v
pairs_of-insert [] k v = refl
pairs_of-insert {Z} (e ∷ es) k v =
    let P : Ordering → Type 0 = λ o. pairs_of (match_ordering o ((k, v) ∷ e ∷ es) ((e.0, v) ∷ es) (e ∷ insert_entry string_cmp es k v))
    ≡ match_ordering o ((string_bytes k, v) ∷ (string_bytes e.0, e.1) ∷ pairs_of es) ((string_bytes e.0, v) ∷ pairs_of es) ((string_bytes e.0, e.1) ∷ insert_entry text_cmp (pairs_of es) (string_bytes k) v) in
    elim (string_cmp k e.0) as P [ Less ↦ refl | Equal ↦ refl | Greater ↦ ap (λ (t : List Pair). (string_bytes e.0, e.1) ∷ t) (pairs_of-insert es k v) ]

-- an insert puts
pub put_insert : {Z : Type 0} (m : List Pair) (es : List (String Z × ℤ)) (k : String Z) (v : ℤ) → IsStrictlySortedBy string_cmp (keys_of es) → SamePairs same_key m (pairs_of es) →
    SamePairs same_key (with_pair m (string_bytes k, v)) (pairs_of (insert_entry string_cmp es k v))
put_insert m es k v h =
    rw (pairs_of-insert es k v) (subst (λ eq. SamePairs eq m (pairs_of es) → SamePairs eq (maps.put eq m (string_bytes k) v) (insert_entry text_cmp (pairs_of es) (string_bytes k) v)) same_test
    (λ s q. SamePairs-put (eq_by_cmp_equiv nat_list_cmp_total) m (pairs_of es) (string_bytes k) v s q ∙ SamePairs-insert_entry nat_list_cmp_total (pairs_of es) (string_bytes k) v (sorted_texts es h) q))

-- a map has one list of its pairs in order
pub one_order : (m ps qs : List Pair) → ListedInOrder m ps → ListedInOrder m qs → ps ≡ qs
one_order m ps qs h k =
    let same : SamePairs same_key ps qs = λ q. sym (h.0.1 q) ∙ k.0.1 q in
    same_sorted nat_list_cmp_total ps qs h.1 k.1 (subst (λ eq. SamePairs eq ps qs) (sym same_test) same)
