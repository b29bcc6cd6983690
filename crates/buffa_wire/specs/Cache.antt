-- The slots that one pass reserves, each for a size, and the other consumes.
use Rattle.std.specs.Prelude.{ℕ, ◌+◌, List, ◌++◌, drop}

-- the slots that were reserved, in order, and how many of them were consumed
pub record Cache : Type 0 where
  pub slots : List ℕ
  pub next : ℕ

-- the slots that are left
abbrev pub left : Cache → List ℕ
left c = drop c.next c.slots

-- with more slots at the end
abbrev pub appended : List ℕ → Cache → Cache
appended more c = record { slots = c.slots ++ more; next = c.next }

-- with n more consumed
abbrev pub advanced : ℕ → Cache → Cache
advanced n c = record { slots = c.slots; next = c.next + n }
