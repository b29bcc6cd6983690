-- Slices that are read one after another.
use Rattle.std.specs.Prelude.{ℕ, ◌<◌, List, [], ◌∷◌, ◌++◌, length}
use Rattle.std.specs.Borrow.{Bor}

-- the bytes of these slices, one after another
abbrev pub joined : List (Bor (List ℕ)) → List ℕ
joined [] = []
joined (s ∷ ss) = s.now ++ joined ss

-- the next byte, where there is one, lies in the first of these slices
abbrev pub IsSettled : List (Bor (List ℕ)) → ℕ → Type 0
IsSettled [] offset = Unit {0}
IsSettled (s ∷ ss) offset = offset < length s.now
