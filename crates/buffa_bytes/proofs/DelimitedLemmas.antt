-- A length and so many bytes: what is read of them, and the grammar.
use Rattle.std.proofs.Common.{◌≡◌, inl, inr, ℕ, nat_lt, ◌<◌, ◌^◌, List, ◌++◌, length, Ok, Err, refl, sym, ap, subst, ◌∙◌, arith, append_assoc, length-append, length-take, true}
use Rattle.std.specs.Str.{is_utf8}
use Rattle.std.proofs.lemmas.Bool.{lt-ltb, le-ltb, ltb-true, ltb-false}
use Rattle.std.proofs.lemmas.List.{take-append-drop}
use Rattle.std.proofs.Math.Seq.{drop-append_seam, take-append_seam}
use Rattle.buffa_bytes.specs.declared.error.DecodeError.{DecodeError}
use Rattle.buffa_bytes.specs.declared.error.DecodeError.TheVariants.{UnexpectedEof}
use Rattle.buffa_bytes.specs.Varint.{varint_encoding, IsVarint}
use Rattle.buffa_bytes.specs.Field.{LengthFault, TakesDelimited}
use Rattle.buffa_bytes.specs.Readings.{varint_at, taken, delimited_at}
use Rattle.buffa_bytes.specs.Values.{delimited_encoding, string_at}
use Rattle.buffa_bytes.proofs.StepLemmas.{Agrees, agree_bind, agree_if, agree_weaker}
use Rattle.buffa_bytes.proofs.VarintLemmas.{varint_sound, varint_complete, varint_faulty, IsVarint-varint_encoding}

pub taken_sound : (n : ℕ) (bs : List ℕ) → Agrees (taken n bs) (λ p. (length p.0 ≡ n) × (bs ≡ p.0 ++ p.1)) (λ e. (length bs < n) × (e ≡ UnexpectedEof))
unfolding taken
taken_sound n bs = agree_if (nat_lt (length bs) n)
    (λ e. record { holds = (ltb-true (length bs) n e, refl) })
    (λ e. record { holds = (omega (arith, length-take n bs, ltb-false (length bs) n e), sym (take-append-drop n bs)) })

pub taken_complete : (n : ℕ) (p rest : List ℕ) → length p ≡ n → taken n (p ++ rest) ≡ Ok (p, rest)
unfolding taken
taken_complete n p rest e =
    rw (le-ltb (length (p ++ rest)) n (omega (arith, length-append p rest)), ← e) (rw (take-append_seam p rest, drop-append_seam p rest) refl)

pub taken_faulty : (n : ℕ) (bs : List ℕ) → length bs < n → taken n bs ≡ Err UnexpectedEof
unfolding taken
taken_faulty n bs h = rw (lt-ltb (length bs) n h) refl

-- a length, and so many bytes of what follows it
pub after_length : (n : ℕ) (bs mid : List ℕ) → varint_at bs ≡ Ok (n, mid) → delimited_at bs ≡ taken n mid
after_length n bs mid v = rw v refl

pub delimited_sound : (bs : List ℕ) → Agrees (delimited_at bs) (λ p. TakesDelimited bs p.0 p.1) (LengthFault bs)
delimited_sound bs = agree_bind (varint_sound bs)
    (λ n v. agree_weaker (taken_sound n.0 n.1)
    (λ p h. (v.0, subst (λ k. IsVarint v.0 k) (sym h.0) v.1, v.2 ∙ ap (λ z. v.0 ++ z) h.1))
    (λ e h. inr (n.0, n.1, v, h.0, h.1)))
    (λ e h. inl h)

pub delimited_complete : (t p rest : List ℕ) → IsVarint t (length p) → delimited_at (t ++ (p ++ rest)) ≡ Ok (p, rest)
delimited_complete t p rest v = rw (varint_complete t (length p) (p ++ rest) v) (taken_complete (length p) p rest refl)

pub delimited_taken : (bs p rest : List ℕ) → TakesDelimited bs p rest → delimited_at bs ≡ Ok (p, rest)
delimited_taken bs p rest (t, v, is) = ap delimited_at is ∙ delimited_complete t p rest v

pub delimited_faulty : (bs : List ℕ) (e : DecodeError) → LengthFault bs e → delimited_at bs ≡ Err e
delimited_faulty bs e (inl h) = rw (varint_faulty bs e h) refl
delimited_faulty bs e (inr (n, rest, (t, v, is), l, k)) = rw (is, varint_complete t n rest v) (taken_faulty n rest l ∙ ap (λ x. Err x) (sym k))

pub delimited_back : (p rest : List ℕ) → length p < 2 ^ 64 → delimited_at (delimited_encoding p ++ rest) ≡ Ok (p, rest)
delimited_back p rest h = ap delimited_at (append_assoc (varint_encoding (length p)) p rest) ∙ delimited_complete (varint_encoding (length p)) p rest (IsVarint-varint_encoding (length p) h)

pub string_back : (text rest : List ℕ) → is_utf8 text ≡ true → length text < 2 ^ 64 → string_at (delimited_encoding text ++ rest) ≡ Ok (text, rest)
string_back text rest u h = rw (delimited_back text rest h, u) refl
