-- Laws of varints.
use Rattle.std.proofs.Common.{◌≡◌, ℕ, zero, suc, ◌+◌, ◌-◌, ◌*◌, ◌%◌, ◌^◌, ◌<◌, ◌≤◌, List, [], ◌∷◌, length, refl, ◌∙◌, ap, arith, add-one, add-zero, ◌⊎◌, inl, inr, ◌≢◌}
use Rattle.std.proofs.Math.Nat.{pow-suc, mul-le-mul_right, le_refl}
use Rattle.buffa_bytes.specs.Varint.{base128}

pub base128-lt : (xs : List ℕ) → base128 xs < 128 ^ length xs
base128-lt [] = omega arith
base128-lt (x ∷ xs) = rw pow-suc (omega (arith, base128-lt xs))

pub grows : (i k : ℕ) → 128 ^ i ≤ 128 ^ (i + k)
grows i zero = rw add-zero (le_refl (128 ^ i))
grows i (suc k) = let e : i + suc k ≡ suc (i + k) = omega arith in rw (e, pow-suc) (omega (arith, grows i k))

-- the places before the tenth
pub scale_le : (p s : ℕ) → p ≤ 8 → s ≡ 128 ^ p → s ≤ 2 ^ 56
scale_le p s h e = let k : 128 ^ p ≤ 128 ^ (p + (8 - p)) = grows p (8 - p) in
    let f : p + (8 - p) ≡ 8 = omega arith in
    let m : 128 ^ p ≤ 128 ^ 8 = rw f at k in omega arith

-- a digit's room
pub digit_le : (p s d : ℕ) → p < 10 → s ≡ 128 ^ p → d < 128 → ((p ≡ 9) × (d ≤ 1)) ⊎ (p ≢ 9) → d * s + s ≤ 2 ^ 64
digit_le p s d h e low cases = elim cases [
  | inl last ↦ let f : s ≡ 128 ^ 9 = e ∙ ap (λ k. 128 ^ k) last.0 in let m : d * s ≤ 1 * s = mul-le-mul_right s last.1 in omega arith
  | inr not ↦ let below : p ≤ 8 = omega arith in let f : s ≤ 2 ^ 56 = scale_le p s below e in let m : d * s ≤ 127 * s = mul-le-mul_right s (omega arith) in omega arith
]

-- the room of the digit of a byte
pub digit_room : (p s d b : ℕ) → p < 10 → s ≡ 128 ^ p → d ≡ b % 128 → ((p ≡ 9) × (b ≤ 1)) ⊎ (p ≢ 9) → d * s + s ≤ 2 ^ 64
digit_room p s d b h e f cases =
    let cs : ((p ≡ 9) × (d ≤ 1)) ⊎ (p ≢ 9) = elim cases [ inl last ↦ inl (last.0, omega arith) | inr not ↦ inr not ] in
    digit_le p s d h e (omega arith) cs

pub next_scale : (p s byte : ℕ) → p < 10 → s ≡ 128 ^ p → 128 ≤ byte → ((p ≡ 9) × (byte ≤ 1)) ⊎ (p ≢ 9) → s * 128 < 2 ^ 64
next_scale p s byte h e high cases = elim cases [ inl last ↦ absurd (omega arith) | inr not ↦ let below : p ≤ 8 = omega arith in omega (arith, scale_le p s below e) ]

pub next_scale_is : (p s : ℕ) → s ≡ 128 ^ p → s * 128 ≡ 128 ^ (p + 1)
next_scale_is p s e = rw (add-one, pow-suc, ← e) refl

pub next_below : (v s d b : ℕ) → v < s → d ≡ b % 128 → v + d * s < s * 128
next_below v s d b h e = let l : d ≤ 127 = omega arith in let m : d * s ≤ 127 * s = mul-le-mul_right s l in omega arith

pub some_scale : (k : ℕ) → 0 < 128 ^ k
some_scale zero = omega arith
some_scale (suc k) = rw pow-suc (omega (arith, some_scale k))
