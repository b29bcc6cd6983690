-- Steps that may fail, and the loops that take them.
use Rattle.std.proofs.Common.{◌≡◌, ◌≢◌, ◌⊎◌, inl, inr, ℕ, suc, ◌+◌, ◌-◌, ◌*◌, ◌%◌, ◌<◌, ◌≤◌, Bool, true, false, List, [], ◌∷◌, Result, Ok, Err, refl, sym, ap, ◌∙◌, arith, if◌then◌else◌}
use Rattle.std.specs.Prelude.{MatchResult}
use Rattle.std.proofs.lemmas.Result.{MatchResult-at_ok, MatchResult-at_err}
use Rattle.std.proofs.lemmas.Bool.{lt-ltb, le-ltb}
use Rattle.buffa_bytes.specs.declared.error.DecodeError.{DecodeError}
use Rattle.buffa_bytes.specs.declared.error.DecodeError.TheVariants.{UnexpectedEof, VarintTooLong}
use Rattle.buffa_bytes.specs.Readings.{varint_within, ◌>>=◌}

-- answers and faults are told apart
pub ok_same : {A : Type 0} {x y : A} → (let r : Result A DecodeError = Ok x in r ≡ Ok y) → x ≡ y
ok_same e = cc

pub err_same : {A : Type 0} {x y : DecodeError} → (let r : Result A DecodeError = Err x in r ≡ Err y) → x ≡ y
err_same e = cc

pub ok_no_err : {A : Type 0} {x : A} {y : DecodeError} → (let r : Result A DecodeError = Ok x in r ≡ Err y) → ⊥
ok_no_err e = cc

-- what holds of each answer, and of each fault
pub record Agrees {A : Type 0} (r : Result A DecodeError) (P : A → Type 0) (F : DecodeError → Type 0) : Type 0 where
  pub holds : MatchResult r P F

pub agree_ok : {A : Type 0} {P : A → Type 0} {F : DecodeError → Type 0} (r : Result A DecodeError) (x : A) → Agrees r P F → r ≡ Ok x → P x
agree_ok {P = P} {F = F} r x a e = MatchResult-at_ok P F x e a.holds

pub agree_err : {A : Type 0} {P : A → Type 0} {F : DecodeError → Type 0} (r : Result A DecodeError) (d : DecodeError) → Agrees r P F → r ≡ Err d → F d
agree_err {P = P} {F = F} r d a e = MatchResult-at_err P F d e a.holds

pub agree_bind : {A B : Type 0} {r : Result A DecodeError} {f : A → Result B DecodeError} {P : A → Type 0} {F : DecodeError → Type 0} {Q : B → Type 0} {E : DecodeError → Type 0} →
    Agrees r P F → ((x : A) → P x → Agrees (f x) Q E) → ((e : DecodeError) → F e → E e) → Agrees (r >>= f) Q E
agree_bind {r = Ok x} h k l = k x h.holds
agree_bind {r = Err e} h k l = record { holds = l e h.holds }

pub agree_if : {B : Type 0} {x y : Result B DecodeError} {Q : B → Type 0} {E : DecodeError → Type 0} (b : Bool) →
    (b ≡ true → Agrees x Q E) → (b ≡ false → Agrees y Q E) → Agrees (if b then x else y) Q E
agree_if true h k = h refl
agree_if false h k = k refl

pub agree_weaker : {A : Type 0} {r : Result A DecodeError} {P Q : A → Type 0} {F E : DecodeError → Type 0} →
    Agrees r P F → ((x : A) → P x → Q x) → ((e : DecodeError) → F e → E e) → Agrees r Q E
agree_weaker {r = Ok x} h k l = record { holds = k x h.holds }
agree_weaker {r = Err e} h k l = record { holds = l e h.holds }

-- what is read behind digits that were read before: v, at the scale s
abbrev pub behind : ℕ → ℕ → Result (ℕ × List ℕ) DecodeError → Result (ℕ × List ℕ) DecodeError
behind v s r = r >>= (λ x. Ok (v + s * x.0, x.1))

pub behind_none : (r : Result (ℕ × List ℕ) DecodeError) → behind 0 1 r ≡ r
behind_none (Ok x) = let e : 0 + 1 * x.0 ≡ x.0 = omega arith in ap (λ n. Ok (n, x.1)) e
behind_none (Err e) = refl

spread : (v s b x : ℕ) → v + s * (b + 128 * x) ≡ (v + b * s) + (s * 128) * x
spread v s b x = grind arith

behind_more : (v s b : ℕ) (r : Result (ℕ × List ℕ) DecodeError) → behind v s (r >>= (λ x. Ok (b + 128 * x.0, x.1))) ≡ behind (v + b * s) (s * 128) r
behind_more v s b (Ok x) = ap (λ n. Ok (n, x.1)) (spread v s b x.0)
behind_more v s b (Err e) = refl

pub digit_end : (p v s : ℕ) (bs : List ℕ) (all : Result (ℕ × List ℕ) DecodeError) → bs ≡ [] → behind v s (varint_within (9 - p) bs) ≡ all → all ≡ Err UnexpectedEof
unfolding varint_within
digit_end p v s bs all e h = sym h ∙ rw e refl

pub digit_long : (p v s b : ℕ) (bs rest : List ℕ) (all : Result (ℕ × List ℕ) DecodeError) → p ≡ 9 → 1 < b → bs ≡ b ∷ rest → behind v s (varint_within (9 - p) bs) ≡ all → all ≡ Err VarintTooLong
unfolding varint_within
digit_long p v s b bs rest all n l e h = sym h ∙ rw (e, n, le-ltb b 2 (omega arith)) refl

pub digit_last : (p v s b d w : ℕ) (bs rest : List ℕ) (all : Result (ℕ × List ℕ) DecodeError) → p < 10 → ((p ≡ 9) × (b ≤ 1)) ⊎ (p ≢ 9) → b < 128 → d ≡ b % 128 → w ≡ v + d * s → bs ≡ b ∷ rest →
    behind v s (varint_within (9 - p) bs) ≡ all → all ≡ Ok (w, rest)
unfolding varint_within
digit_last p v s b d w bs rest all n c l f g e h =
    let m : v + s * b ≡ w = let k : d ≡ b = omega arith in let j : v + s * b ≡ v + b * s = omega arith in j ∙ ap (λ x. v + x * s) (sym k) ∙ sym g in
    elim c [
      | inl last ↦ sym h ∙ rw (e, last.0, lt-ltb b 2 (omega arith)) (ap (λ x. Ok (x, rest)) m)
      | inr not ↦ let q : 9 - p ≡ suc (8 - p) = omega arith in sym h ∙ rw (e, q, lt-ltb b 128 l) (ap (λ x. Ok (x, rest)) m)
    ]

pub digit_more : (p v s b d : ℕ) (bs rest : List ℕ) (all : Result (ℕ × List ℕ) DecodeError) → p < 10 → ((p ≡ 9) × (b ≤ 1)) ⊎ (p ≢ 9) → 128 ≤ b → d ≡ b % 128 → bs ≡ b ∷ rest →
    behind v s (varint_within (9 - p) bs) ≡ all → behind (v + d * s) (s * 128) (varint_within (9 - (p + 1)) rest) ≡ all
unfolding varint_within
digit_more p v s b d bs rest all n c l f e h =
    elim c [
      | inl last ↦ absurd (omega arith)
      | inr not ↦
          let q : 9 - p ≡ suc (9 - (p + 1)) = omega arith in
          let k : behind v s (varint_within (9 - p) bs) ≡ behind v s (varint_within (9 - (p + 1)) rest >>= (λ x. Ok (b % 128 + 128 * x.0, x.1))) = rw (e, q, le-ltb b 128 l) refl in
          rw f (sym (behind_more v s (b % 128) (varint_within (9 - (p + 1)) rest)) ∙ sym k ∙ h)
    ]
