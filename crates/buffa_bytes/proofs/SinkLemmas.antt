-- One encoding after another.
use Rattle.buffa_bytes.specs.Varint.{varint_encoding}
use Rattle.buffa_bytes.proofs.ShortestLemmas.{varint_encoding-more, varint_encoding-last, varint_encoding-some}
use Rattle.std.proofs.Common.{[], ◌∷◌, ◌+◌, ◌/◌, ◌%◌, ◌<◌, ◌≤◌, length, arith, ◌≡◌, ℕ, List, ◌++◌, refl, sym, subst, ◌∙◌, ap, append_assoc, append-nil, length-append}
use Rattle.std.specs.Prelude.{Result, Err}
use Rattle.std.proofs.lemmas.Result.{MatchResult-weaker}
use Rattle.buffa_bytes.specs.declared.error.EncodeError.{EncodeError}
use Rattle.buffa_bytes.specs.declared.error.EncodeError.TheVariants.{OutOfMemory}
use Rattle.buffa_bytes.specs.Written.{UsesRoom, Writes, WritesFront}

-- a front of the first is a front of both
pub front_first : (old a b new : List ℕ) → WritesFront old a new → WritesFront old (a ++ b) new
front_first old a b new h = (h.0, h.1 ++ b, ap (λ t. t ++ b) h.2 ∙ append_assoc h.0 h.1 b, h.3, omega (arith, h.4, length-append h.1 b))

-- after the first, a front of the second
pub front_second : (old a b mid new : List ℕ) → mid ≡ old ++ a → WritesFront mid b new → WritesFront old (a ++ b) new
front_second old a b mid new e h = (a ++ h.0, h.1, ap (λ t. a ++ t) h.2 ∙ sym (append_assoc a h.0 h.1), h.3 ∙ ap (λ t. t ++ h.0) e ∙ append_assoc old a h.0, h.4)

-- both
pub writes_then : {T : Type 0} (r : Result T EncodeError) (old a b mid new : List ℕ) → mid ≡ old ++ a → Writes r mid b new → Writes r old (a ++ b) new
writes_then r old a b mid new e h = MatchResult-weaker r h
    (λ x w. w ∙ ap (λ t. t ++ b) e ∙ append_assoc old a b)
    (λ x w. (w.0, front_second old a b mid new e w.1))

-- the room of both
pub room_then : {T : Type 0} (r : Result T EncodeError) (room mid left : ℕ) (a b : List ℕ) → room ≤ mid + length a → UsesRoom r mid b left → UsesRoom r room (a ++ b) left
room_then r room mid left a b e h = MatchResult-weaker r h
    (λ x w. omega (arith, e, w, length-append a b))
    (λ x w. omega (arith, e, w, length-append a b))

-- a refusal of the first encoding, as `?` hands it on, is one of both
pub room_first : {T : Type 0} {r : Result T EncodeError} {e : EncodeError} → r ≡ Err e → (room left : ℕ) (a b : List ℕ) → room < length a → UsesRoom r room (a ++ b) left
room_first is room left a b w = rw is (omega (arith, w, length-append a b))

-- a refusal of the first encoding, as `?` hands it on, is one of both
pub exits_first : {T : Type 0} {r : Result T EncodeError} {e d : EncodeError} → r ≡ Err e → e ≡ d → (old a b new : List ℕ) → (d ≡ OutOfMemory) × WritesFront old a new → Writes r old (a ++ b) new
exits_first is same old a b new w = rw (is, same) (w.0, front_first old a b new w.1)

-- a front of all was written, and rest is what is left of all
pub record Sent (old now : List ℕ) (room left : ℕ) (all rest : List ℕ) : Type 0 where
  pub done : List ℕ
  pub is : now ≡ old ++ done
  pub whole : done ++ rest ≡ all
  pub fits : room ≤ left + length done

pub sent_none : (old : List ℕ) (room : ℕ) (all : List ℕ) → Sent old old room room all all
sent_none old room all = record { done = []; is = sym (append-nil old); whole = refl; fits = omega arith }

-- a digit more
pub sent_digit : (old mid new : List ℕ) (room left less : ℕ) (all : List ℕ) (n : ℕ) → 128 ≤ n → Sent old mid room left all (varint_encoding n) → new ≡ mid ++ ((n % 128 + 128) ∷ []) → left ≤ less + 1 → Sent old new room less all (varint_encoding (n / 128))
sent_digit old mid new room left less all n large s e h = record {
  done = s.done ++ (n % 128 + 128) ∷ [];
  is = e ∙ ap (λ t. t ++ (n % 128 + 128) ∷ []) s.is ∙ append_assoc old s.done ((n % 128 + 128) ∷ []);
  whole = append_assoc s.done ((n % 128 + 128) ∷ []) (varint_encoding (n / 128)) ∙ ap (λ t. s.done ++ t) (sym (varint_encoding-more n large)) ∙ s.whole;
  fits = omega (arith, s.fits, h, length-append s.done ((n % 128 + 128) ∷ []));
}

-- the last digit
pub sent_last : {T : Type 0} (r : Result T EncodeError) (old mid new : List ℕ) (room left : ℕ) (all : List ℕ) (n : ℕ) → n < 128 → Sent old mid room left all (varint_encoding n) → Writes r mid (n ∷ []) new → Writes r old all new
sent_last r old mid new room left all n small s w =
    subst (λ t. Writes r old t new) (ap (λ t. s.done ++ t) (sym (varint_encoding-last n small)) ∙ s.whole) (writes_then r old s.done (n ∷ []) mid new s.is w)

pub sent_room : {T : Type 0} (r : Result T EncodeError) (old mid : List ℕ) (room left less : ℕ) (all : List ℕ) (n : ℕ) → n < 128 → Sent old mid room left all (varint_encoding n) → UsesRoom r left (n ∷ []) less → UsesRoom r room all less
sent_room r old mid room left less all n small s w =
    subst (λ t. UsesRoom r room t less) (ap (λ t. s.done ++ t) (sym (varint_encoding-last n small)) ∙ s.whole) (room_then r room left less s.done (n ∷ []) s.fits w)

-- a refusal of a digit, as `?` hands it on
pub sent_refused : {T : Type 0} {r : Result T EncodeError} {e d : EncodeError} → r ≡ Err e → e ≡ d → (old mid new : List ℕ) (room left : ℕ) (all : List ℕ) (n : ℕ) → 128 ≤ n → Sent old mid room left all (varint_encoding n) →
    (d ≡ OutOfMemory) × WritesFront mid ((n % 128 + 128) ∷ []) new → Writes r old all new
sent_refused {r = r} is same old mid new room left all n large s w =
    let b : List ℕ = (n % 128 + 128) ∷ [] in
    let whole : (s.done ++ b) ++ varint_encoding (n / 128) ≡ all = append_assoc s.done b (varint_encoding (n / 128)) ∙ ap (λ t. s.done ++ t) (sym (varint_encoding-more n large)) ∙ s.whole in
    subst (λ t. Writes r old t new) whole (exits_first is same old (s.done ++ b) (varint_encoding (n / 128)) new (w.0, front_second old s.done b mid new s.is w.1))

pub sent_full : {T : Type 0} {r : Result T EncodeError} {e : EncodeError} → r ≡ Err e → (old mid : List ℕ) (room left less : ℕ) (all : List ℕ) (n : ℕ) → 128 ≤ n → Sent old mid room left all (varint_encoding n) → left < 1 → UsesRoom r room all less
sent_full is old mid room left less all n large s h =
    rw is (omega (arith, s.fits, h, ap length s.whole, length-append s.done (varint_encoding n), varint_encoding-some n))
