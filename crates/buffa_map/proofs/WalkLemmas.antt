-- Two walks of one map.
use Rattle.std.proofs.Common.{◌≡◌, ◌≢◌, ℕ, ◌+◌, ◌*◌, ◌^◌, ◌<◌, Bool, List, [], ◌∷◌, ◌++◌, length, map, refl, sym, ap, subst, ◌∙◌, arith, length-append}
use Rattle.std.specs.Cmp.{IsEquivalence}
use Rattle.std.specs.HashMap.{HashMap}
use Rattle.std.specs.List.{IsDistinct, sum_by}
use Rattle.std.specs.List.Sorted.{IsPermutation}
use Rattle.std.specs.Map.{keys_of, lookup}
use Rattle.std.proofs.lemmas.List.Sorted.{IsPermutation-map, length_permutation, sum_by-IsPermutation}
use Rattle.std.proofs.lemmas.List.Sums.{sum_by-cons}
use Rattle.std.proofs.lemmas.Map.Lookups.{hash_map_IsPermutation_from_get, map_keys}
use Rattle.indexmap.specs.Layout.{hash_map}
use Rattle.buffa_bytes.specs.Values.{tag_encoding}
use Rattle.buffa_bytes.specs.Varint.{varint_encoding}
use Rattle.buffa_bytes.specs.declared.wire_type.WireType.TheVariants.{LengthDelimited}
use Rattle.buffa_map.specs.Codec.{Writing}
use Rattle.buffa_map.specs.Pairs.{ListsOnce}
use Rattle.buffa_map.specs.Encoding.{entry_encoding, field_size, field_encoding, saturated}
use Rattle.buffa_map.proofs.HashedLemmas.{beside, keys-beside, lookup-beside, values-beside, values-map_keys}
use Rattle.buffa_map.proofs.SizeLemmas.{counted_size, length-field_encoding}

-- ---- values under keys that differ: equal look-ups give equal values, in some order

module _ {K X : Type 0} {eq : K → K → Bool} (laws : IsEquivalence eq) where
  abbrev values : List (K × X) → List X
  values es = map (λ e. e.1) es

  -- a map of these entries; its hasher and its room are never asked for
  abbrev of_entries : List (K × X) → HashMap K X ℕ
  of_entries es = hash_map es 0 0

  -- their keys told by nothing
  abbrev keyless : List (K × X) → List (ℕ × X)
  keyless es = map_keys (λ k. 0) es

  reordered : (es fs : List (K × X)) → IsDistinct eq (keys_of es) → IsDistinct eq (keys_of fs) → ((q : K) → lookup (eq q) es ≡ lookup (eq q) fs) → IsPermutation (values es) (values fs)
  reordered es fs c d h =
      let alike : IsPermutation (keyless es) (keyless fs) = hash_map_IsPermutation_from_get laws (of_entries es) (of_entries fs) c d h (λ k. 0) (λ x y e. refl) in
      let valued : IsPermutation (map (λ e. e.1) (keyless es)) (map (λ e. e.1) (keyless fs)) = IsPermutation-map (λ (e : ℕ × X). e.1) (keyless es) (keyless fs) alike in
      subst (λ z. IsPermutation z (values fs)) (values-map_keys (λ k. 0) es) (subst (λ z. IsPermutation (map (λ e. e.1) (keyless es)) z) (values-map_keys (λ k. 0) fs) valued)

-- ---- two walks

module _ {K V : Type 0} {eq : K → K → Bool} (laws : IsEquivalence eq) where
  pub permuted : (m a b : List (K × V)) → ListsOnce eq m a → ListsOnce eq m b → IsPermutation a b
  permuted m a b x y =
      let apart : (l : List (K × V)) → IsDistinct eq (keys_of l) → IsDistinct eq (keys_of (map beside l)) = λ l d. subst (λ z. IsDistinct eq z) (sym (keys-beside l)) d in
      let found = reordered laws (map beside a) (map beside b) (apart a x.0) (apart b y.0) (λ q. lookup-beside (eq q) a ∙ sym (x.1 q) ∙ y.1 q ∙ sym (lookup-beside (eq q) b)) in
      subst (λ z. IsPermutation z b) (values-beside a) (subst (λ z. IsPermutation (map (λ e. e.1) (map beside a)) z) (values-beside b) found)

  -- a walk has as many pairs as the map
  pub one_count : (m l : List (K × V)) → IsDistinct eq (keys_of m) → ListsOnce eq m l → length l ≡ length m
  one_count m l d h = length_permutation m l (permuted m m l (d, λ q. refl) h)

  -- a map without pairs is walked as none
  pub no_pairs : (m l : List (K × V)) → IsDistinct eq (keys_of m) → ListsOnce eq m l → length m ≡ 0 → l ≡ []
  no_pairs m [] d h none = refl
  no_pairs m (p ∷ l) d h none = absurd (omega (arith, one_count m (p ∷ l) d h, none))

  -- a map of which a walk gives a pair has pairs
  pub has_pairs : (m l done rest : List (K × V)) (p : K × V) → IsDistinct eq (keys_of m) → ListsOnce eq m l → l ≡ done ++ p ∷ rest → m ≢ []
  has_pairs m l done rest p d h e none = absurd (omega (arith, one_count m l d h, ap length none, ap length e, length-append done (p ∷ rest)))

module _ {K V : Type 0} (key : Writing K) (val : Writing V) where
  abbrev pair_size : ℕ → K × V → ℕ
  pair_size t p = t + (length (varint_encoding (length (entry_encoding key val p))) + length (entry_encoding key val p))

  size_is_sum : (t : ℕ) (l : List (K × V)) → field_size key val t l ≡ sum_by (pair_size t) l
  size_is_sum t [] = refl
  size_is_sum t (p ∷ ps) = omega (arith, size_is_sum t ps, sum_by-cons (pair_size t) p ps)

  module _ {eq : K → K → Bool} (laws : IsEquivalence eq) where
    pub one_size : (t : ℕ) (m a b : List (K × V)) → ListsOnce eq m a → ListsOnce eq m b → field_size key val t a ≡ field_size key val t b
    one_size t m a b x y = size_is_sum t a ∙ sym (sum_by-IsPermutation (pair_size t) a b (permuted laws m a b x y)) ∙ sym (size_is_sum t b)

    -- the size of as many records of one length as the map has pairs
    pub counted : (t r n size : ℕ) (m l : List (K × V)) → ((p : K × V) → r ≡ field_size key val t (p ∷ [])) →
        IsDistinct eq (keys_of m) → ListsOnce eq m l → n ≡ length m → size ≡ saturated (n * r) → size ≡ saturated (field_size key val t l)
    counted t r n size m l one d h count is =
        is ∙ ap (λ z. saturated (z * r)) (count ∙ sym (one_count laws m l d h)) ∙ ap saturated (sym (counted_size key val t r l one))

    -- a size that one walk announced, and the encoding of another one
    pub announced : (t n size : ℕ) (m a b : List (K × V)) (old new : List ℕ) → ListsOnce eq m a → ListsOnce eq m b → t ≡ length (tag_encoding n LengthDelimited) →
        size ≡ saturated (field_size key val t a) → new ≡ old ++ field_encoding key val n b → length new < 2 ^ 64 → length new ≡ length old + size
    announced t n size m a b old new x y tag is encoding few =
        let same : field_size key val t a ≡ length (field_encoding key val n b) =
        one_size t m a b x y ∙ ap (λ z. field_size key val z b) tag ∙ sym (length-field_encoding key val n b) in
        let whole : length new ≡ length old + length (field_encoding key val n b) = ap length encoding ∙ length-append old (field_encoding key val n b) in
        omega (arith, same, whole, is, few)
