-- Insertions into hashed maps put, wherever the new pair goes.
use Rattle.std.proofs.Common.{◌≡◌, Bool, cond, List, [], ◌∷◌, Option, Some, None, refl, sym, ◌∙◌, ap, arith, map, subst}
use Rattle.std.specs.Prelude.{MatchOption}
use Rattle.std.specs.Cmp.{IsEquivalence}
use Rattle.std.specs.Map.{lookup_entry, lookup, keys_of, set_value}
use Rattle.std.specs.List.{IsDistinct}
use Rattle.std.specs.List.Sorted.{IsPermutation}
use Rattle.std.proofs.lemmas.List.Sorted.{IsPermutation-map}
use Rattle.std.proofs.lemmas.Map.Lookups.{map_keys}
use Rattle.indexmap.proofs.MapLemmas.{lookup_permutation}
use Rattle.indexmap.specs.IndexMap.{insert_entry}
use Rattle.buffa_map.specs.Pairs.{means, put, SamePairs}
use Rattle.buffa_map.proofs.MeaningLemmas.{put-mean}
use Rattle.buffa_map.proofs.PutLemmas.{lookup_entry-put, key_or}

-- each pair beside its key
abbrev pub beside : {K V : Type 0} → K × V → K × (K × V)
beside e = (e.0, e)

pub lookup-beside : {K V : Type 0} (t : K → Bool) (es : List (K × V)) → lookup t (map beside es) ≡ lookup_entry t es
lookup-beside t [] = refl
lookup-beside t (e ∷ es) = ap (cond (t e.0) (Some e)) (lookup-beside t es)

pub keys-beside : {K V : Type 0} (es : List (K × V)) → keys_of (map beside es) ≡ keys_of es
keys-beside [] = refl
keys-beside (e ∷ es) = ap (λ z. e.0 ∷ z) (keys-beside es)

pub values-beside : {K V : Type 0} (es : List (K × V)) → map (λ (z : K × (K × V)). z.1) (map beside es) ≡ es
values-beside [] = refl
values-beside (e ∷ es) = ap (λ z. e ∷ z) (values-beside es)

-- entries whose keys are told by something else have the same values
pub values-map_keys : {K B X : Type 0} (f : K → B) (es : List (K × X)) → map (λ (e : B × X). e.1) (map_keys f es) ≡ map (λ (e : K × X). e.1) es
values-map_keys f [] = refl
values-map_keys f (e ∷ es) = ap (λ z. e.1 ∷ z) (values-map_keys f es)

module _ {K V : Type 0} {eq : K → K → Bool} (laws : IsEquivalence eq) where
  pub SamePairs-permutation : (es fs : List (K × V)) → IsPermutation es fs → IsDistinct eq (keys_of fs) → SamePairs eq es fs
  SamePairs-permutation es fs p d q =
      sym (lookup-beside (eq q) es) ∙ sym (lookup_permutation laws (map beside es) (map beside fs) (IsPermutation-map beside es fs p) (subst (IsDistinct eq) (sym (keys-beside fs)) d) (eq q) (laws.congr q)) ∙ lookup-beside (eq q) fs

  entry-none : (t : K → Bool) (es : List (K × V)) → lookup t es ≡ None → lookup_entry t es ≡ None
  entry-none t [] h = refl
  entry-none t (e ∷ es) h = grind (arith, entry-none t es)

  -- where the key is absent
  put-new : (es : List (K × V)) (k : K) (v : V) → lookup_entry (eq k) es ≡ None → SamePairs eq (put eq es k v) ((k, v) ∷ es)
  put-new es k v h q = lookup_entry-put laws es k v q ∙ ap (λ z. cond (eq q k) (Some (key_or k z, v)) (lookup_entry (eq q) es)) h

  -- where it is there
  put-set : (es : List (K × V)) (k : K) (v w : V) → lookup (eq k) es ≡ Some w → put eq es k v ≡ set_value (eq k) es v
  put-set [] k v w h = cc
  put-set (e ∷ es) k v w h = grind (arith, put-set es k v w)

  pub SamePairs-puts_entry : (es fs : List (K × V)) (k : K) (v : V) (old : Option V) → old ≡ lookup (eq k) es → IsDistinct eq (keys_of fs) →
      MatchOption old (IsPermutation ((k, v) ∷ es) fs) (λ _. fs ≡ set_value (eq k) es v) → SamePairs eq (put eq es k v) fs
  SamePairs-puts_entry es fs k v None o d p q = put-new es k v (entry-none (eq k) es (sym o)) q ∙ SamePairs-permutation ((k, v) ∷ es) fs p d q
  SamePairs-puts_entry es fs k v (Some w) o d p q = ap (lookup_entry (eq q)) (put-set es k v w (sym o) ∙ sym p)

put_is : {K V : Type 0} (eq : K → K → Bool) (es : List (K × V)) (k : K) (v : V) → put eq es k v ≡ insert_entry eq es k v
put_is eq [] k v = refl
put_is eq (e ∷ es) k v = ap (λ z. cond (eq k e.0) ((e.0, v) ∷ es) (e ∷ z)) (put_is eq es k v)

-- an insertion that keeps the order is a put
pub SamePairs-insert : {K V : Type 0} (eq : K → K → Bool) (es fs : List (K × V)) (k : K) (v : V) → fs ≡ insert_entry eq es k v → SamePairs eq (put eq es k v) fs
SamePairs-insert eq es fs k v h q = ap (lookup_entry (eq q)) (put_is eq es k v ∙ sym h)

-- and stays one on what the pairs mean
pub means-insert : {K V A B : Type 0} (f : K → A) (g : V → B) {eq : K → K → Bool} {same : A → A → Bool} → IsEquivalence same → ((a b : K) → eq a b ≡ same (f a) (f b)) → (es fs : List (K × V)) (k : K) (v : V) →
    fs ≡ insert_entry eq es k v → means f g fs ≡ put same (means f g es) (f k) (g v)
means-insert f g {eq = eq} laws respects es fs k v h = ap (means f g) (h ∙ sym (put_is eq es k v)) ∙ put-mean f g laws respects es k v
