-- Maps as members that are walked in the order of their keys.
use Rattle.std.specs.Prelude.{◌≡◌, Bool, true, false, List, refl}
use Rattle.std.specs.Bool.{beq}
use Rattle.std.specs.List.Sorted.{IsStrictlySortedBy}
use Rattle.std.specs.Map.{keys_of}
use Rattle.std.specs.Ordering.{bool_cmp, eq_by_cmp}
use Rattle.std.specs.declared.cmp.Ordering.{Ordering}

-- each key comes before those behind it
abbrev pub KeysAscend : {K V : Type 0} → (K → K → Ordering) → List (K × V) → Type 0
KeysAscend order l = IsStrictlySortedBy order (keys_of l)

pub bits_tie : (a b : Bool) → beq a b ≡ eq_by_cmp bool_cmp a b
bits_tie true true = refl
bits_tie true false = refl
bits_tie false true = refl
bits_tie false false = refl
