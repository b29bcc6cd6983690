-- Laws of the shortest spelling.
use Rattle.std.proofs.Common.{◌≡◌, ℕ, zero, suc, ◌+◌, ◌-◌, ◌*◌, ◌/◌, ◌%◌, ◌^◌, ◌<◌, ◌≤◌, [], ◌∷◌, length, refl, sym, ◌∙◌, ap, arith, inl, inr}
use Rattle.std.proofs.lemmas.Bool.{lt-ltb, cases_lt, le-ltb}
use Rattle.std.proofs.Math.Nat.{pow-suc, one-le-pow}
use Rattle.std.proofs.Math.Pow.{pow_mono}
use Rattle.std.proofs.lemmas.Nat.{pow-add, pow_pos, leading_top, le_or_l, le_or_r, or_lt, and_mask, and_or_self}
use Rattle.std.specs.Int.Bits.{bit_or, or_add_and}
use Rattle.std.specs.Int.Count.{count_leading_zeros}
use Rattle.buffa_bytes.specs.Varint.{shortest, varint_encoding}

pub one_byte : (k n : ℕ) → n < 128 → shortest k n ≡ n ∷ []
unfolding shortest
one_byte zero n h = refl
one_byte (suc k) n h = rw (shortest, lt-ltb n 128 h) refl

pub more_bytes : (k n : ℕ) → 128 ≤ n → shortest (suc k) n ≡ (n % 128 + 128) ∷ shortest k (n / 128)
unfolding shortest
more_bytes k n h = rw (shortest, le-ltb n 128 h) refl

-- more room changes nothing
room_enough : (k j n : ℕ) → n ≤ k → n ≤ j → shortest k n ≡ shortest j n
room_enough zero j n h i = one_byte zero n (omega arith) ∙ sym (one_byte j n (omega arith))
room_enough (suc k) zero n h i = one_byte (suc k) n (omega arith) ∙ sym (one_byte zero n (omega arith))
room_enough (suc k) (suc j) n h i = elim (cases_lt n 128) [
  | inl small ↦ one_byte (suc k) n small ∙ sym (one_byte (suc j) n small)
  | inr large ↦ more_bytes k n large ∙ ap (λ t. (n % 128 + 128) ∷ t) (room_enough k j (n / 128) (omega arith) (omega arith)) ∙ sym (more_bytes j n large)
]

-- a number below 128 is its own spelling
pub varint_encoding-last : (n : ℕ) → n < 128 → varint_encoding n ≡ n ∷ []
unfolding varint_encoding
varint_encoding-last n h = one_byte n n h

-- a larger one has its low seven bits first
pub varint_encoding-more : (n : ℕ) → 128 ≤ n → varint_encoding n ≡ (n % 128 + 128) ∷ varint_encoding (n / 128)
unfolding varint_encoding
varint_encoding-more n h = let e : n ≡ suc (n - 1) = omega arith in
    ap (λ k. shortest k n) e ∙ more_bytes (n - 1) n h ∙ ap (λ t. (n % 128 + 128) ∷ t) (room_enough (n - 1) (n / 128) (n / 128) (omega arith) (omega arith))

pub length-shortest : (j k n : ℕ) → n < 128 ^ suc j → length (shortest k n) ≤ suc j
unfolding shortest
length-shortest j zero n h = omega arith
length-shortest zero (suc k) n h = rw (one_byte (suc k) n (omega arith)) (omega arith)
length-shortest (suc j) (suc k) n h = elim (cases_lt n 128) [
  | inl small ↦ rw (one_byte (suc k) n small) (omega arith)
  | inr large ↦ rw (more_bytes k n large) (let below : n / 128 < 128 ^ suc j = (let f : n < 128 ^ suc j * 128 = rw pow-suc at h in omega arith) in omega (arith, length-shortest j k (n / 128) below))
]

pub ten_at_most : (n : ℕ) → n < 2 ^ 64 → length (varint_encoding n) ≤ 10
unfolding varint_encoding
ten_at_most n h = length-shortest 9 n n (omega arith)

pub varint_encoding-some : (n : ℕ) → 0 < length (varint_encoding n)
varint_encoding-some n = elim (cases_lt n 128) [ inl small ↦ rw (varint_encoding-last n small) (omega arith) | inr large ↦ rw (varint_encoding-more n large) (omega arith) ]

-- the length by the place of the highest bit
places : (q n : ℕ) → 128 ^ q ≤ n → n < 128 ^ suc q → length (varint_encoding n) ≡ q + 1
places zero n l h = rw (varint_encoding-last n h) refl
places (suc q) n l h =
    let low : 128 ^ q * 128 ≤ n = rw pow-suc at l in
    let high : n < 128 ^ suc q * 128 = rw pow-suc at h in
    let large : 128 ≤ n = omega (arith, one-le-pow q 128 (omega arith)) in
    rw (varint_encoding-more n large) (omega (arith, places q (n / 128) (omega arith) (omega arith)))

sevens : (q : ℕ) → 128 ^ q ≡ 2 ^ (7 * q)
sevens zero = refl
sevens (suc q) = let e : 7 * suc q ≡ 7 * q + 7 = omega arith in rw (pow-suc, sevens q, e, pow-add) refl

by_bit : (j n : ℕ) → 2 ^ j ≤ n → n < 2 ^ suc j → length (varint_encoding n) ≡ j / 7 + 1
by_bit j n l h =
    let q = j / 7 in
    let low : 128 ^ q ≤ 2 ^ j = rw (sevens q) (pow_mono (omega arith)) in
    let high : 2 ^ suc j ≤ 128 ^ suc q = rw (sevens (suc q)) (pow_mono (omega arith)) in
    places q n (omega arith) (omega arith)

from_top : (n m z j : ℕ) → n ≤ m → m ≤ n + 1 → m % 2 ≡ 1 → z + suc j ≡ 64 → 2 ^ j ≤ m → m < 2 ^ suc j → ((64 - z) * 9 + 64) / 64 ≡ length (varint_encoding n)
from_top zero m z zero h i o e l k = rw (varint_encoding-last 0 (omega arith)) (omega arith)
from_top zero m z (suc j) h i o e l k = let p : 2 ^ j * 2 ≤ m = rw pow-suc at l in absurd (omega (arith, pow_pos j))
from_top (suc n) m z zero h i o e l k = rw (varint_encoding-last (suc n) (omega arith)) (omega arith)
from_top (suc n) m z (suc j) h i o e l k =
    let p : 2 ^ j * 2 ≤ m = rw pow-suc at l in
    let low : 2 ^ suc j ≤ suc n = rw pow-suc (omega arith) in
    omega (arith, by_bit (suc j) (suc n) low (omega arith))

pub length_by_bits : (n : ℕ) → n < 2 ^ 64 → ((64 - count_leading_zeros 64 (bit_or n 1)) * 9 + 64) / 64 ≡ length (varint_encoding n)
length_by_bits n h =
    let m = bit_or n 1 in
    let odd : m % 2 ≡ 1 = sym (and_mask m 1) ∙ and_or_self 1 n in
    let t = leading_top 64 m (omega (arith, le_or_r n 1)) (or_lt 64 n 1 h (omega arith)) in
    from_top n m (count_leading_zeros 64 m) t.0 (le_or_l n 1) (omega (arith, or_add_and n 1)) odd t.1 t.2 t.3

pub ruleset v_laws = (varint_encoding-last, varint_encoding-more, varint_encoding-some, ten_at_most)
