-- The records of one number among others.
use Rattle.std.specs.Prelude.{ℕ, List, map, filter, not, ◌==◌}
use Rattle.buffa_wire.specs.Records.{FieldData}

-- what the records of number n hold, in order
abbrev pub sub : ℕ → List (ℕ × FieldData) → List FieldData
sub n rs = map (λ r. r.1) (filter (λ r. r.0 == n) rs)

-- the records of other numbers, in order
abbrev pub without : ℕ → List (ℕ × FieldData) → List (ℕ × FieldData)
without n rs = filter (λ r. not (r.0 == n)) rs

-- what is held, as records of number n
abbrev pub tagged : ℕ → List FieldData → List (ℕ × FieldData)
tagged n ds = map (λ d. (n, d)) ds
