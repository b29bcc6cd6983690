-- Pairs, and the pairs of what they mean.
use Rattle.std.proofs.Common.{◌≡◌, Bool, true, false, cond, List, [], ◌∷◌, Option, Some, None, refl, sym, ◌∙◌, ap, arith, map, subst}
use Rattle.std.specs.Prelude.{option_map}
use Rattle.std.specs.Cmp.{IsEquivalence}
use Rattle.std.specs.Map.{lookup_entry, keys_of}
use Rattle.std.specs.List.{IsDistinct, AllByRecursion}
use Rattle.buffa_bytes.proofs.ListLemmas.{AllByRecursion-weaker}
use Rattle.buffa_map.specs.Pairs.{put, mean, SamePairs}

-- what holds of what each key means
pub means-all : {K V A B : Type 0} (f : K → A) (g : V → B) (P : A → Type 0) (es : List (K × V)) → AllByRecursion (λ k. P (f k)) (keys_of es) → AllByRecursion P (keys_of (map (mean f g) es))
means-all f g P [] h = tt
means-all f g P (e ∷ es) h = (h.0, means-all f g P es h.1)

lookup_entry-alike : {A B : Type 0} {same : A → A → Bool} → IsEquivalence same → (q r : A) → same q r ≡ true → (es : List (A × B)) → lookup_entry (same q) es ≡ lookup_entry (same r) es
lookup_entry-alike laws q r h [] = refl
lookup_entry-alike laws q r h (e ∷ es) = rw (laws.congr q r e.0 h, lookup_entry-alike laws q r h es) refl

module _ {K V A B : Type 0} (f : K → A) (g : V → B) {eq : K → K → Bool} {same : A → A → Bool} (laws : IsEquivalence same) (respects : (a b : K) → eq a b ≡ same (f a) (f b)) where
  pub put-mean : (es : List (K × V)) (k : K) (v : V) → map (mean f g) (put eq es k v) ≡ put same (map (mean f g) es) (f k) (g v)
  put-mean [] k v = refl
  put-mean (e ∷ es) k v = grind (arith, respects k e.0, put-mean es k v)

  lookup_entry-mean : (es : List (K × V)) (q : K) → lookup_entry (same (f q)) (map (mean f g) es) ≡ option_map (mean f g) (lookup_entry (eq q) es)
  lookup_entry-mean [] q = refl
  lookup_entry-mean (e ∷ es) q = grind (arith, respects q e.0, lookup_entry-mean es q)

  found_by : (q : A) (e : A × B) (x : K × V) (es : List (K × V)) (b : Bool) → same q (f x.0) ≡ b → cond (same q (f x.0)) (Some (f x.0, g x.1)) (lookup_entry (same q) (map (mean f g) es)) ≡ Some e →
      (lookup_entry (same q) (map (mean f g) es) ≡ Some e → (k : K) × (same q (f k) ≡ true)) → (k : K) × (same q (f k) ≡ true)
  found_by q e x es true b h more = (x.0, b)
  found_by q e x es false b h more = more (subst (λ (z : Bool). cond z (Some (f x.0, g x.1)) (lookup_entry (same q) (map (mean f g) es)) ≡ Some e) b h)

  found : (q : A) (e : A × B) (es : List (K × V)) → lookup_entry (same q) (map (mean f g) es) ≡ Some e → (k : K) × (same q (f k) ≡ true)
  found q e [] h = cc
  found q e (x ∷ es) h = found_by q e x es (same q (f x.0)) refl h (found q e es)

  module _ (m n : List (K × V)) (alike : SamePairs eq m n) (q : A) where
    at_key : (k : K) → same q (f k) ≡ true → lookup_entry (same q) (map (mean f g) m) ≡ lookup_entry (same q) (map (mean f g) n)
    at_key k h =
        lookup_entry-alike laws q (f k) h (map (mean f g) m) ∙ lookup_entry-mean m k ∙ ap (option_map (mean f g)) (alike k) ∙ sym (lookup_entry-mean n k) ∙ sym (lookup_entry-alike laws q (f k) h (map (mean f g) n))

    at_answers : (a b : Option (A × B)) → lookup_entry (same q) (map (mean f g) m) ≡ a → lookup_entry (same q) (map (mean f g) n) ≡ b → lookup_entry (same q) (map (mean f g) m) ≡ lookup_entry (same q) (map (mean f g) n)
    at_answers None None h i = h ∙ sym i
    at_answers None (Some e) h i = let w = found q e n i in at_key w.0 w.1
    at_answers (Some e) b h i = let w = found q e m h in at_key w.0 w.1

  pub SamePairs-mean : (m n : List (K × V)) → SamePairs eq m n → SamePairs same (map (mean f g) m) (map (mean f g) n)
  SamePairs-mean m n alike q = at_answers m n alike q (lookup_entry (same q) (map (mean f g) m)) (lookup_entry (same q) (map (mean f g) n)) refl refl

  -- a put on the pairs is one on what they mean
  pub SamePairs-put_mean : (m n : List (K × V)) (k : K) (v : V) → SamePairs eq (put eq m k v) n → SamePairs same (put same (map (mean f g) m) (f k) (g v)) (map (mean f g) n)
  SamePairs-put_mean m n k v h q = rw (sym (put-mean m k v)) (SamePairs-mean (put eq m k v) n h q)

  all-mean : (x : K) (es : List (K × V)) → AllByRecursion (λ y. eq x y ≡ false) (keys_of es) → AllByRecursion (λ y. same (f x) y ≡ false) (keys_of (map (mean f g) es))
  all-mean x es h = means-all f g (λ y. same (f x) y ≡ false) es (AllByRecursion-weaker (λ y. eq x y ≡ false) (λ y. same (f x) (f y) ≡ false) (λ y n. sym (respects x y) ∙ n) (keys_of es) h)

  pub IsDistinct-mean : (es : List (K × V)) → IsDistinct eq (keys_of es) → IsDistinct same (keys_of (map (mean f g) es))
  unfolding IsDistinct
  IsDistinct-mean [] h = h
  IsDistinct-mean (e ∷ es) h = (all-mean e.0 es h.0, IsDistinct-mean es h.1)
