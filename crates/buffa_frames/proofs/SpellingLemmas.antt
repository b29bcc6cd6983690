-- Spellings of lengths, and their beginnings.
use Rattle.std.proofs.Common.{◌≡◌, ℕ, zero, suc, ◌+◌, ◌-◌, ◌^◌, ◌<◌, ◌≤◌, List, [], ◌∷◌, ◌++◌, length, replicate, Ok, refl, sym, ap, ◌∙◌, arith, append_assoc, length-append}
use Rattle.std.specs.List.{All}
use Rattle.std.proofs.lemmas.List.Elements.{All-cons, All-nil}
use Rattle.buffa_bytes.specs.Varint.{Continue, IsByte, IsVarint, TakesVarint, base128}
use Rattle.buffa_bytes.specs.Readings.{varint_at}
use Rattle.buffa_bytes.proofs.DigitLemmas.{base128-lt, grows}
use Rattle.buffa_bytes.proofs.StepLemmas.{ok_same}
use Rattle.buffa_bytes.proofs.VarintLemmas.{varint_complete}

-- ---- lists

-- the shorter of two beginnings of one list begins the other
pub shorter_front : (p q r s : List ℕ) → p ++ q ≡ r ++ s → length p ≤ length r → (x : List ℕ) × (r ≡ p ++ x) × (q ≡ x ++ s)
shorter_front [] q r s e l = (r, refl, e)
shorter_front (a ∷ p) q [] s e l = absurd (omega arith)
shorter_front (a ∷ p) q (b ∷ r) s e l =
    let head : b ≡ a = cc in
    let tail : p ++ q ≡ r ++ s = cc in
    let t = shorter_front p q r s tail (omega arith) in
    (t.0, (λ i. head i ∷ t.1 i), t.2)

pub zeros_are_bytes : (n : ℕ) → All IsByte (replicate n 0)
zeros_are_bytes zero = All-nil IsByte
zeros_are_bytes (suc n) = All-cons IsByte 0 (replicate n 0) (omega arith) (zeros_are_bytes n)

-- ---- digits

pub low_le : (xs ys : List ℕ) → base128 xs ≤ base128 (xs ++ ys)
low_le [] ys = omega arith
low_le (x ∷ xs) ys = omega (arith, low_le xs ys)

padded : (xs : List ℕ) → base128 (xs ++ 0 ∷ []) ≡ base128 xs
padded [] = refl
padded (x ∷ xs) = omega (arith, padded xs)

pub Continue-front : (xs ys : List ℕ) → Continue (xs ++ ys) → Continue xs
Continue-front [] ys c = tt
Continue-front (x ∷ xs) ys c = (c.0, Continue-front xs ys c.1)

-- fewer than ten digits say a number below 2^63
pub digits_fit : (xs : List ℕ) → length xs < 10 → base128 xs < 2 ^ 63
digits_fit xs l =
    let k = 9 - length xs in
    let e : length xs + k ≡ 9 = omega arith in
    let g : 128 ^ length xs ≤ 128 ^ (length xs + k) = grows (length xs) k in
    let h : 128 ^ length xs ≤ 128 ^ 9 = rw e at g in
    omega (arith, h, base128-lt xs)

-- and fewer than nine, one below 2^56
pub digits_small : (xs : List ℕ) → length xs ≤ 8 → base128 xs < 2 ^ 56
digits_small xs l =
    let k = 8 - length xs in
    let e : length xs + k ≡ 8 = omega arith in
    let g : 128 ^ length xs ≤ 128 ^ (length xs + k) = grows (length xs) k in
    let h : 128 ^ length xs ≤ 128 ^ 8 = rw e at g in
    omega (arith, h, base128-lt xs)

-- a 0 ends them, and adds nothing
pub ended_spelling : (xs : List ℕ) → Continue xs → length xs < 10 → IsVarint (xs ++ 0 ∷ []) (base128 xs)
ended_spelling xs c l = record { front = xs; last = 0; spelled = refl; continue = c; ends = omega arith; short = l; value = sym (padded xs); fits = omega (arith, digits_fit xs l) }

-- ---- what begins some bytes

pub taken_varint : (bs : List ℕ) (n : ℕ) (rest : List ℕ) → TakesVarint bs n rest → varint_at bs ≡ Ok (n, rest)
taken_varint bs n rest (t, v, is) = ap varint_at is ∙ varint_complete t n rest v

-- bytes begin with one spelling
pub one_varint : (bs : List ℕ) (n m : ℕ) (r s : List ℕ) → TakesVarint bs n r → TakesVarint bs m s → (n ≡ m) × (r ≡ s)
one_varint bs n m r s a b =
    let e = ok_same (sym (taken_varint bs n r a) ∙ taken_varint bs m s b) in
    (ap (λ p. p.0) e, ap (λ p. p.1) e)

longer_in : (bs more front : List ℕ) (last : ℕ) (x : List ℕ) → Continue bs → last < 128 → bs ++ more ≡ front ++ last ∷ x →
    (u : List ℕ) × (front ++ last ∷ [] ≡ bs ++ u) × (more ≡ u ++ x) × (0 < length u)
longer_in [] more front last x c l e = (front ++ last ∷ [], refl, e ∙ sym (append_assoc front (last ∷ []) x), omega (arith, length-append front (last ∷ [])))
longer_in (b ∷ bs) more [] last x c l e = let s : b ≡ last = cc in absurd (omega (arith, c.0))
longer_in (b ∷ bs) more (a ∷ front) last x c l e =
    let head : a ≡ b = cc in
    let tail : bs ++ more ≡ front ++ last ∷ x = cc in
    let t = longer_in bs more front last x c.1 l tail in
    (t.0, (λ i. head i ∷ t.1 i), t.2, t.3)

-- a spelling that bytes begin with, each of which continues, is longer than these, and its number is at least what they say
pub longer : (bs more t x : List ℕ) (n : ℕ) → Continue bs → IsVarint t n → bs ++ more ≡ t ++ x → (u : List ℕ) × (more ≡ u ++ x) × (0 < length u) × (base128 bs ≤ n)
longer bs more t x n c v e =
    let w = longer_in bs more v.front v.last x c v.ends (e ∙ ap (λ z. z ++ x) v.spelled ∙ append_assoc v.front (v.last ∷ []) x) in
    let is : n ≡ base128 (bs ++ w.0) = v.value ∙ ap base128 (v.spelled ∙ w.1) in
    (w.0, w.2, w.3, omega (arith, is, low_le bs w.0))
