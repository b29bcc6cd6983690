-- What scalars owe.
use Rattle.std.proofs.Common.{◌≡◌, ℕ, ℤ, ◌<◌, ◌^◌, Option, None, Some, ◌∙◌, arith}
use Rattle.std.specs.Prelude.{FitsSigned}
use Rattle.std.specs.Int.{w32}
use Rattle.buffa_bytes.specs.Scalars.{zigzag}
use Rattle.buffa_bytes.proofs.ScalarLemmas.{zigzag_fits32}

-- ---- lengths of encodings

abbrev none : Option ℕ
none = None

abbrev some : ℕ → Option ℕ
some n = Some n

pub no_fixed_length : {n : ℕ} {P : Type 0} → none ≡ Some n → P
no_fixed_length h = cc

same_length : {k n : ℕ} → some k ≡ Some n → k ≡ n
same_length h = cc

pub one_length : {k n m : ℕ} → some k ≡ Some n → m ≡ k → m ≡ n
one_length h e = e ∙ same_length h

-- ---- numbers of 32 bits as varints

pub below_64 : (n : ℕ) → n < 2 ^ 32 → n < 2 ^ 64
below_64 n h = omega (arith, h)

pub zigzag32_below : (v : ℤ) → FitsSigned w32 v → zigzag v < 2 ^ 64
zigzag32_below v h = below_64 (zigzag v) (zigzag_fits32 v h)
