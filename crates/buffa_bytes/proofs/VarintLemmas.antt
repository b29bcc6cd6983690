-- What is read of a varint, and its spellings.
use Rattle.std.proofs.Common.{◌≡◌, inl, inr, ℕ, zero, suc, ◌+◌, ◌*◌, ◌/◌, ◌%◌, ◌^◌, nat_lt, ◌<◌, ◌≤◌, List, [], ◌∷◌, ◌++◌, length, Ok, Err, refl, sym, ap, subst, ◌∙◌, arith, append_assoc, length-append}
use Rattle.std.proofs.lemmas.Bool.{lt-ltb, le-ltb, ltb-true, ltb-false, cases_lt}
use Rattle.std.specs.List.{All}
use Rattle.std.proofs.lemmas.List.Elements.{All-head, All-tail, All-cons, All-nil}
use Rattle.std.proofs.Math.Nat.{pow-suc}
use Rattle.buffa_bytes.specs.declared.error.DecodeError.{DecodeError}
use Rattle.buffa_bytes.specs.declared.error.DecodeError.TheVariants.{UnexpectedEof, VarintTooLong}
use Rattle.buffa_bytes.specs.Varint.{IsByte, base128, Continue, IsVarint, TakesVarint, VarintFault, shortest, varint_encoding}
use Rattle.buffa_bytes.specs.Readings.{varint_within, varint_at}
use Rattle.buffa_bytes.proofs.StepLemmas.{Agrees, agree_bind, agree_if, agree_weaker}
use Rattle.buffa_bytes.proofs.DigitLemmas.{base128-lt, some_scale}
use Rattle.buffa_bytes.proofs.ShortestLemmas.{one_byte, more_bytes, ten_at_most, length-shortest}

record Spelled (k : ℕ) (bs : List ℕ) (n : ℕ) (rest : List ℕ) : Type 0 where
  front : List ℕ
  last : ℕ
  is : bs ≡ front ++ last ∷ rest
  continue : Continue front
  ends : last < 128
  short : length front ≤ k
  value : n ≡ base128 (front ++ last ∷ [])
  fits : n < 2 * 128 ^ k

abbrev Faulty : ℕ → List ℕ → DecodeError → Type 0
Faulty k bs UnexpectedEof = Continue bs × (length bs ≤ k)
Faulty k bs VarintTooLong = (front : List ℕ) × (b : ℕ) × (rest : List ℕ) × Continue front × (length front ≡ k) × (2 ≤ b) × (bs ≡ front ++ b ∷ rest)
Faulty k bs _ = ⊥

faulty_more : (k b : ℕ) (bs : List ℕ) (e : DecodeError) → 128 ≤ b → Faulty k bs e → Faulty (suc k) (b ∷ bs) e
faulty_more k b bs UnexpectedEof h f = ((h, f.0), omega (arith, f.1))
faulty_more k b bs VarintTooLong h (front, c, rest, o, l, m, e) = (b ∷ front, c, rest, (h, o), omega (arith, l), m, ap (λ x. b ∷ x) e)
faulty_more k b bs _ h f = absurd f

sound_in : (k : ℕ) (bs : List ℕ) → Agrees (varint_within k bs) (λ v. Spelled k bs v.0 v.1) (Faulty k bs)
unfolding varint_within
sound_in k [] = record { holds = (tt, omega arith) }
sound_in zero (b ∷ bs) = agree_if (nat_lt b 2)
    (λ e. let h = ltb-true b 2 e in record { holds = record { front = []; last = b; is = refl; continue = tt; ends = omega arith; short = omega arith; value = omega arith; fits = omega arith } })
    (λ e. record { holds = ([], b, bs, tt, refl, ltb-false b 2 e, refl) })
sound_in (suc k) (b ∷ bs) = agree_if (nat_lt b 128)
    (λ e. let h = ltb-true b 128 e in record { holds = record { front = []; last = b; is = refl; continue = tt; ends = h; short = omega arith; value = omega arith; fits = rw pow-suc (omega (arith, some_scale k)) } })
    (λ e. let h = ltb-false b 128 e in agree_bind (sound_in k bs)
    (λ v s. record {
      holds = record {
        front = b ∷ s.front;
        last = s.last;
        is = ap (λ x. b ∷ x) s.is;
        continue = (h, s.continue);
        ends = s.ends;
        short = omega (arith, s.short);
        value = omega (arith, s.value);
        fits = rw pow-suc (omega (arith, s.fits));
      };
    })
    (λ d f. faulty_more k b bs d h f))

fault_of : (bs : List ℕ) (e : DecodeError) → Faulty 9 bs e → VarintFault bs e
fault_of bs UnexpectedEof f = (f.0, omega (arith, f.1))
fault_of bs VarintTooLong f = f
fault_of bs _ f = absurd f

pub varint_sound : (bs : List ℕ) → Agrees (varint_at bs) (λ v. TakesVarint bs v.0 v.1) (VarintFault bs)
unfolding varint_at
varint_sound bs = agree_weaker (sound_in 9 bs)
    (λ v s. (
      s.front ++ s.last ∷ [],
      record { front = s.front; last = s.last; spelled = refl; continue = s.continue; ends = s.ends; short = omega (arith, s.short); value = s.value; fits = omega (arith, s.fits) },
      s.is ∙ sym (append_assoc s.front (s.last ∷ []) v.1),
    ))
    (fault_of bs)

complete_in : (k : ℕ) (front : List ℕ) (last : ℕ) (rest : List ℕ) → Continue front → last < 128 → length front ≤ k → base128 (front ++ last ∷ []) < 2 * 128 ^ k →
    varint_within k (front ++ last ∷ rest) ≡ Ok (base128 (front ++ last ∷ []), rest)
unfolding varint_within
complete_in zero [] b rest c h l f = let e : b ≡ b % 128 + 128 * 0 = omega arith in rw (lt-ltb b 2 (omega arith)) (ap (λ x. Ok (x, rest)) e)
complete_in (suc k) [] b rest c h l f = let e : b ≡ b % 128 + 128 * 0 = omega arith in rw (lt-ltb b 128 h) (ap (λ x. Ok (x, rest)) e)
complete_in zero (b ∷ front) last rest c h l f = absurd (omega arith)
complete_in (suc k) (b ∷ front) last rest c h l f =
    let g : b % 128 + 128 * base128 (front ++ last ∷ []) < 2 * (128 ^ k * 128) = rw pow-suc at f in
    rw (le-ltb b 128 c.0, complete_in k front last rest c.1 h (omega arith) (omega arith)) refl

pub varint_complete : (bytes : List ℕ) (n : ℕ) (rest : List ℕ) → IsVarint bytes n → varint_at (bytes ++ rest) ≡ Ok (n, rest)
unfolding varint_at
varint_complete bytes n rest v =
    let e : bytes ++ rest ≡ v.front ++ v.last ∷ rest = ap (λ x. x ++ rest) v.spelled ∙ append_assoc v.front (v.last ∷ []) rest in
    let m : base128 (v.front ++ v.last ∷ []) ≡ n = sym (v.value ∙ ap base128 v.spelled) in
    let p : 2 * 128 ^ 9 ≡ 2 ^ 64 = refl in
    ap (varint_within 9) e ∙ complete_in 9 v.front v.last rest v.continue v.ends (omega (arith, v.short)) (omega (arith, m, v.fits, p)) ∙ ap (λ x. Ok (x, rest)) m

eof_in : (k : ℕ) (bs : List ℕ) → Continue bs → length bs ≤ k → varint_within k bs ≡ Err UnexpectedEof
unfolding varint_within
eof_in k [] c l = refl
eof_in zero (b ∷ bs) c l = absurd (omega arith)
eof_in (suc k) (b ∷ bs) c l = rw (le-ltb b 128 c.0, eof_in k bs c.1 (omega arith)) refl

long_in : (k : ℕ) (front : List ℕ) (b : ℕ) (rest : List ℕ) → Continue front → length front ≡ k → 2 ≤ b → varint_within k (front ++ b ∷ rest) ≡ Err VarintTooLong
unfolding varint_within
long_in zero [] b rest c l h = rw (le-ltb b 2 h) refl
long_in (suc k) [] b rest c l h = absurd (omega arith)
long_in zero (x ∷ front) b rest c l h = absurd (omega arith)
long_in (suc k) (x ∷ front) b rest c l h = rw (le-ltb x 128 c.0, long_in k front b rest c.1 (omega arith) h) refl

pub varint_faulty : (bs : List ℕ) (e : DecodeError) → VarintFault bs e → varint_at bs ≡ Err e
unfolding varint_at
varint_faulty bs UnexpectedEof f = eof_in 9 bs f.0 (omega (arith, f.1))
varint_faulty bs VarintTooLong (front, b, rest, c, l, h, e) = ap (varint_within 9) e ∙ long_in 9 front b rest c l h
varint_faulty bs _ f = absurd f

pub varint_falls : (bytes : List ℕ) (n : ℕ) → IsVarint bytes n → 0 < length bytes
varint_falls bytes n v = rw v.spelled (omega (arith, length-append v.front (v.last ∷ [])))

-- ---- spellings of one length
digit_same : (a b r s : ℕ) → 128 ≤ a → 128 ≤ b → a < 256 → b < 256 → a % 128 + 128 * r ≡ b % 128 + 128 * s → (a ≡ b) × (r ≡ s)
digit_same a b r s h k l m e = (omega arith, omega arith)

digits_same : (f g : List ℕ) (x y : ℕ) → Continue f → Continue g → x < 128 → y < 128 → All IsByte f → All IsByte g → length f ≡ length g → base128 (f ++ x ∷ []) ≡ base128 (g ++ y ∷ []) → f ++ x ∷ [] ≡ g ++ y ∷ []
digits_same [] [] x y c d h k l m n e = let s : x ≡ y = omega arith in ap (λ z. z ∷ []) s
digits_same [] (b ∷ g) x y c d h k l m n e = absurd (omega arith)
digits_same (a ∷ f) [] x y c d h k l m n e = absurd (omega arith)
digits_same (a ∷ f) (b ∷ g) x y c d h k l m n e =
    let s = digit_same a b (base128 (f ++ x ∷ [])) (base128 (g ++ y ∷ [])) c.0 d.0 (All-head IsByte a f l) (All-head IsByte b g m) e in
    let t = digits_same f g x y c.1 d.1 h k (All-tail IsByte a f l) (All-tail IsByte b g m) (omega arith) s.1 in
    λ i. s.0 i ∷ t i

bytes_before : (f : List ℕ) (x : ℕ) → All IsByte (f ++ x ∷ []) → All IsByte f
bytes_before [] x h = All-nil IsByte
bytes_before (b ∷ f) x h = All-cons IsByte b f (All-head IsByte b (f ++ x ∷ []) h) (bytes_before f x (All-tail IsByte b (f ++ x ∷ []) h))

front_bytes : (f : List ℕ) (x : ℕ) (c : List ℕ) → c ≡ f ++ x ∷ [] → All IsByte c → All IsByte f
front_bytes f x c s h = bytes_before f x (subst (All IsByte) s h)

pub spelling_same : (a b : List ℕ) (n : ℕ) → All IsByte a → All IsByte b → IsVarint a n → IsVarint b n → length a ≡ length b → a ≡ b
spelling_same a b n p q v w e =
    v.spelled
    ∙ digits_same v.front w.front v.last w.last v.continue w.continue v.ends w.ends
    (front_bytes v.front v.last a v.spelled p) (front_bytes w.front w.last b w.spelled q)
    (omega (arith, e, ap length v.spelled, ap length w.spelled, length-append v.front (v.last ∷ []), length-append w.front (w.last ∷ [])))
    (sym (ap base128 v.spelled) ∙ sym v.value ∙ w.value ∙ ap base128 w.spelled)
    ∙ sym w.spelled

-- ---- the shortest spelling
-- bs spells n, in any number of bytes
pub record Spells (bs : List ℕ) (n : ℕ) : Type 0 where
  pub front : List ℕ
  pub last : ℕ
  pub is : bs ≡ front ++ last ∷ []
  pub continue : Continue front
  pub ends : last < 128
  pub value : n ≡ base128 bs

short_in : (k n : ℕ) → n ≤ k → Spells (shortest k n) n
unfolding shortest
short_in zero n h = record { front = []; last = n; is = refl; continue = tt; ends = omega arith; value = omega arith }
short_in (suc k) n h = elim (cases_lt n 128) [
  | inl small ↦ rw (one_byte (suc k) n small) (record { front = []; last = n; is = refl; continue = tt; ends = small; value = omega arith })
  | inr large ↦ (let s = short_in k (n / 128) (omega arith) in rw (more_bytes k n large) (record { front = (n % 128 + 128) ∷ s.front; last = s.last; is = ap (λ x. (n % 128 + 128) ∷ x) s.is; continue = (omega arith, s.continue); ends = s.ends; value = omega (arith, s.value) }))
]

pub varint_encoding-spells : (n : ℕ) → Spells (varint_encoding n) n
unfolding varint_encoding
varint_encoding-spells n = short_in n n (omega arith)

pub IsVarint-varint_encoding : (n : ℕ) → n < 2 ^ 64 → IsVarint (varint_encoding n) n
IsVarint-varint_encoding n h = let s = varint_encoding-spells n in
    record { front = s.front; last = s.last; spelled = s.is; continue = s.continue; ends = s.ends; short = omega (arith, ten_at_most n h, ap length s.is, length-append s.front (s.last ∷ [])); value = s.value; fits = h }

pub varint_encoding-shortest : (bytes : List ℕ) (n : ℕ) → IsVarint bytes n → length (varint_encoding n) ≤ length bytes
unfolding varint_encoding
varint_encoding-shortest bytes n v =
    let e : length bytes ≡ suc (length v.front) = ap length v.spelled ∙ omega (arith, length-append v.front (v.last ∷ [])) in
    let b : n < 128 ^ length bytes = rw v.value (base128-lt bytes) in
    let c : n < 128 ^ suc (length v.front) = rw e at b in
    omega (arith, length-shortest (length v.front) n n c)
