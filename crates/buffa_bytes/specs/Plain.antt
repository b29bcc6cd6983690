-- Values that are identical where they are equal.
use Rattle.std.specs.Prelude.{◌≡◌, Bool, true, ℕ, ℤ, List, nat_eq}
use Rattle.std.proofs.Common.{sym}
use Rattle.std.specs.Bool.{beq}
use Rattle.std.specs.Cmp.{booleans_Decides, signed_Decides, unsigned_Decides}
use Rattle.std.specs.Cmp.Lexicographic.{pointwise, same_text}
use Rattle.std.specs.Ordering.{int_eq}

pub numbers_plain : (a b : ℕ) → nat_eq a b ≡ true → a ≡ b
numbers_plain a b h = (unsigned_Decides a b).0 h

pub integers_plain : (a b : ℤ) → int_eq a b ≡ true → a ≡ b
integers_plain a b h = (signed_Decides a b).0 h

pub bits_plain : (a b : Bool) → beq a b ≡ true → a ≡ b
bits_plain a b h = (booleans_Decides a b).0 h

pub bytes_plain : (a b : List ℕ) → pointwise nat_eq a b ≡ true → a ≡ b
bytes_plain a b h = same_text a b (sym h)
