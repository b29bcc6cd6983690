-- The enum of `rewrite N`, by its numbers: it declares 0, its default, and 1.
use Rattle.std.specs.Prelude.{ℤ, pos, if◌then◌else◌, Option, Some, None}
use Rattle.std.specs.Ordering.{int_eq}
use Rattle.buffa_wire.specs.Enums.{Numbers, numbers}
use Rattle.buffamap.specs.declared.choice.Choice.{Choice}
use Rattle.buffamap.specs.declared.choice.Choice.TheVariants.{A, B}

-- the number of a value
abbrev pub choice_number : Choice → ℤ
choice_number A = pos 0
choice_number B = pos 1

-- the value that has a number
abbrev pub choice_of : ℤ → Option Choice
choice_of n = if int_eq n (pos 0) then Some A else if int_eq n (pos 1) then Some B else None

abbrev pub two_numbers : Numbers
two_numbers = numbers choice_of (pos 0)
