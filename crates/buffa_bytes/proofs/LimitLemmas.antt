-- What lies within a limit, and past it.
use Rattle.std.proofs.Common.{min, ◌≡◌, ℕ, List, length, drop, sym, ◌∙◌, ap, arith, inl, inr}
use Rattle.std.proofs.Math.ListN.{drop_of_length-le}
use Rattle.std.proofs.lemmas.Bool.{cases_lt}

-- no more is dropped than there is
pub drop_min : (n k : ℕ) (xs : List ℕ) → n ≡ min (length xs) k → drop n xs ≡ drop k xs
drop_min n k xs e = elim (cases_lt (length xs) k) [
  | inl past ↦ drop_of_length-le xs (omega arith) ∙ sym (drop_of_length-le xs (omega arith))
  | inr within ↦ ap (λ m. drop m xs) {y = k} (omega arith)
]
