-- Which lengths and numbers rules accept.
use Rattle.std.specs.Prelude.{ℕ, ℤ, ◌≡◌, ◌≤◌, ◌<◌, Some, IfSome}
use Rattle.std.specs.Int.Signed.{◌≤ℤ◌, ◌<ℤ◌}
use Rattle.sample_options.specs.declared.rules.Rules.{Rules}
use Rattle.sample_options.specs.declared.judge.Fault.{Fault}
use Rattle.sample_options.specs.declared.judge.Fault.TheVariants.{Missing, TooLong, TooSmall, TooGreat, OfAnotherKind}

-- the length is no greater than one that is set
abbrev pub FitsLength : Rules → ℕ → Type 0
FitsLength rules n = IfSome rules.max_len (λ most. n ≤ most)

-- the number lies within the bounds that are set
abbrev pub IsInRange : Rules → ℤ → Type 0
IsInRange rules v = IfSome rules.least (λ least. least ≤ℤ v) × IfSome rules.most (λ most. v ≤ℤ most)

-- the fault that a length is
abbrev pub BreaksLength : Rules → ℕ → Fault → Type 0
BreaksLength rules n e = (e ≡ TooLong) × (most : ℕ) × (rules.max_len ≡ Some most) × (most < n)

-- the fault that a number is: the greatest counts only where the number isn't below the least
abbrev pub BreaksRange : Rules → ℤ → Fault → Type 0
BreaksRange rules v TooSmall = (least : ℤ) × (rules.least ≡ Some least) × (v <ℤ least)
BreaksRange rules v TooGreat = (most : ℤ) × (rules.most ≡ Some most) × (most <ℤ v) × IfSome rules.least (λ least. least ≤ℤ v)
BreaksRange rules v Missing = ⊥
BreaksRange rules v TooLong = ⊥
BreaksRange rules v OfAnotherKind = ⊥
