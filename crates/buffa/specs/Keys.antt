-- The stored keys of a map.
use Rattle.std.specs.Prelude.{◌≡◌, Bool, false, true, List, Some}
use Rattle.std.specs.Map.{keys_of, lookup_entry}
use Rattle.buffa_map.specs.Pairs.{SamePairs, put}

-- what a put leaves of the stored keys, in whatever order the pairs stand then
pub record KeepsStoredKeys {K : Type 0} (V : Type 0) (eq : K → K → Bool) : Type 0 where
  -- where a pair has the key, it has its stored key then too, and the new value
  pub stored : (old new : List (K × V)) (k q : K) (v : V) (e : K × V) → SamePairs eq (put eq old k v) new →
      lookup_entry (eq k) old ≡ Some e → eq q k ≡ true → lookup_entry (eq q) new ≡ Some (e.0, v)
  -- each other key finds the pair that it found, or none as before
  pub others : (old new : List (K × V)) (k q : K) (v : V) → SamePairs eq (put eq old k v) new →
      eq q k ≡ false → lookup_entry (eq q) new ≡ lookup_entry (eq q) old
  -- where the order is kept, all keys stay in their places
  pub places : (old : List (K × V)) (k : K) (v : V) (e : K × V) → lookup_entry (eq k) old ≡ Some e → keys_of (put eq old k v) ≡ keys_of old
