-- The rules by which entries are read, of their parts in one order, for lemmas that go over many of them.
use Rattle.std.proofs.Common.{ℕ, Bool, true, false}
use Rattle.buffa_map.specs.Codec.{Reading}
use Rattle.buffa_map.specs.Merge.{Rules}

-- entries with an undeclared value are dropped
abbrev pub dropping : {K V : Type 0} → Reading K → Reading V → (K → K → Bool) → Bool → ℕ → ℕ → ℕ → Rules K V
dropping key val same ordered depth number cost =
    record { key = key; val = val; same = same; keeps_order = ordered; depth = depth; number = number; cost = cost; keeps_undeclared = false }

-- they are kept
abbrev pub keeping : {K V : Type 0} → Reading K → Reading V → (K → K → Bool) → Bool → ℕ → ℕ → ℕ → Rules K V
keeping key val same ordered depth number cost =
    record { key = key; val = val; same = same; keeps_order = ordered; depth = depth; number = number; cost = cost; keeps_undeclared = true }
