-- Numbers in decimal.
use Rattle.std.proofs.Common.{rules, arith, ◌≡◌, ◌<◌, ◌≤◌, ◌^◌, ℕ, List, Result, Some, None, Ok, Err, true, length, ap, ◌∙◌}
use Rattle.std.proofs.lemmas.Str.Parse.{IsNumeralModel, numerals_by_value, parse_digits, digits_value_short}
use Rattle.std.specs.Str.Parse.{digits_value, ParsesUnsigned}
use Rattle.std.proofs.lemmas.Result.{Ok-from_Ok_iff}
use Rattle.std.specs.List.{list_all}
use Rattle.std.specs.Char.{is_ascii_digit}
use Rattle.std.specs.Result.{result_ok}
use Rattle.std.specs.Prelude.{IsUtf8, MatchResult}
use Rattle.std.proofs.Common.{Bor}
use Rattle.std.proofs.lemmas.Str.{IsUtf8-from_ascii}
use Rattle.std.proofs.lemmas.Fmt.{IsAscii-from_digits}

abbrev pub IsDigits : List ℕ → Type 0
IsDigits ds = list_all is_ascii_digit ds ≡ true

own : IsNumeralModel (λ ds. list_all is_ascii_digit ds ≡ true) (digits_value 10)
own = numerals_by_value _ (search rules)

-- ten digits are parsed in 64 bits
pub parsed : {E : Type 0} (ds : List ℕ) (r : Result ℕ E) → IsDigits ds → 0 < length ds → length ds ≤ 10 → ParsesUnsigned 64 10 ds r → r ≡ Ok (digits_value 10 ds)
parsed ds r digits some few h =
    let small : digits_value 10 ds < 10 ^ 10 = digits_value_short own ds 10 digits few in
    Ok-from_Ok_iff r (0 < length ds × (digits_value 10 ds < 2 ^ 64)) (digits_value 10 ds) (parse_digits own 64 ds r h digits) (some, omega arith)

-- digits are text
pub digits_are_text : (ds : List ℕ) → IsDigits ds → IsUtf8 ds
digits_are_text ds h = search (rules, IsUtf8-from_ascii, IsAscii-from_digits ds (own.to ds h))

-- what `from_utf8` gives for text
pub no_text : {E : Type 0} (r : Result (Bor (List ℕ)) E) (bs : List ℕ) (Q : E → Type 0) → MatchResult r (λ s. (s.now ≡ bs) × IsUtf8 bs) (λ e. ¬ (IsUtf8 bs) × Q e) → IsUtf8 bs → None ≡ result_ok r → ⊥
no_text (Ok s) bs Q h u e = cc
no_text (Err x) bs Q h u e = h.0 u

pub same_text : {E : Type 0} (r : Result (Bor (List ℕ)) E) (bs : List ℕ) (Q : E → Type 0) (t : Bor (List ℕ)) → MatchResult r (λ s. (s.now ≡ bs) × IsUtf8 bs) (λ e. ¬ (IsUtf8 bs) × Q e) → Some t ≡ result_ok r → t.now ≡ bs
same_text (Ok s) bs Q t h e = let f : t ≡ s = cc in ap (λ (x : Bor (List ℕ)). x.now) f ∙ h.0
same_text (Err x) bs Q t h e = cc
