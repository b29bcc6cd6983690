-- A map as the list of its pairs, in any order.
use Rattle.std.specs.Prelude.{◌≡◌, Bool, true, List, [], ◌∷◌, map, if◌then◌else◌}
use Rattle.std.specs.List.{IsDistinct}
use Rattle.std.specs.Map.{keys_of, lookup_entry}

-- what the parts of a pair mean
abbrev pub mean : {K V A B : Type 0} → (K → A) → (V → B) → K × V → A × B
mean f g p = (f p.0, g p.1)

abbrev pub means : {K V A B : Type 0} → (K → A) → (V → B) → List (K × V) → List (A × B)
means f g = map (mean f g)

-- where the order is kept, new is this very list; where it isn't, nothing is said
abbrev pub InOrder : {A : Type 0} → Bool → List A → List A → Type 0
InOrder keeps l new = keeps ≡ true → new ≡ l

module _ {K V : Type 0} (eq : K → K → Bool) where
  -- The pairs with v at k: the pair whose key equals k keeps its key and takes the value; if there is none,
  -- (k, v) is added at the end.
  abbrev pub put : List (K × V) → K → V → List (K × V)
  put [] k v = (k, v) ∷ []
  put (e ∷ es) k v = if eq k e.0 then (e.0, v) ∷ es else e ∷ put es k v

  -- one map: each key finds the same stored pair in both, or none in both
  abbrev pub SamePairs : List (K × V) → List (K × V) → Type 0
  SamePairs m n = (q : K) → lookup_entry (eq q) m ≡ lookup_entry (eq q) n

  -- l holds each pair of m once
  abbrev pub ListsOnce : List (K × V) → List (K × V) → Type 0
  ListsOnce m l = IsDistinct eq (keys_of l) × SamePairs m l

-- maps whose keys ascend are walked in one way, where they find the same pairs
abbrev pub HaveOneWalk : {K V M : Type 0} → (M → List (K × V) → Type 0) → (M → Type 0) → (K → K → Bool) → (M → List (K × V)) → Type 0
HaveOneWalk {K} {V} {M} Walks Ascends same pairs =
    (m n : M) (l k : List (K × V)) → Walks m l → Walks n k → Ascends m → Ascends n → SamePairs same (pairs m) (pairs n) → l ≡ k
