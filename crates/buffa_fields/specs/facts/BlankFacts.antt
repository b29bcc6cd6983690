-- Which values are the default.
use Rattle.std.proofs.Common.{◌≡◌, ℕ, ◌==◌, zero, suc, ℤ, pos, negsuc, Bool, true, false, not, List, [], ◌∷◌, refl}
use Rattle.std.proofs.lemmas.Bool.{eqb-true}

abbrev pub is_zero : ℤ → Bool
is_zero (pos zero) = true
is_zero (pos (suc n)) = false
is_zero (negsuc n) = false

pub zero_only : (v : ℤ) → is_zero v ≡ true → v ≡ pos 0
zero_only (pos zero) h = refl
zero_only (pos (suc n)) h = cc
zero_only (negsuc n) h = cc

abbrev pub is_none : List ℕ → Bool
is_none [] = true
is_none (b ∷ bs) = false

pub none_only : (v : List ℕ) → is_none v ≡ true → v ≡ []
none_only [] h = refl
none_only (b ∷ bs) h = cc

pub same_false_only : (v : Bool) → not v ≡ true → v ≡ false
same_false_only true h = cc
same_false_only false h = refl

abbrev pub is_nought : ℕ → Bool
is_nought n = n == 0

pub nought_only : (n : ℕ) → is_nought n ≡ true → n ≡ 0
nought_only n h = eqb-true n 0 h
