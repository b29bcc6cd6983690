-- Where readers leave what is unread.
use Rattle.std.proofs.Common.{◌≡◌, inl, inr, ℕ, List, ◌++◌, Ok, Err, length, take, drop, ap, append_assoc, refl, subst, sym, ◌∙◌, ◌<◌, ◌≤◌}
use Rattle.std.proofs.lemmas.Bool.{lt-ltb}
use Rattle.std.proofs.Math.Seq.{drop-append_seam}
use Rattle.buffa_bytes.proofs.DelimitedLemmas.{delimited_sound, delimited_taken}
use Rattle.buffa_bytes.proofs.FieldLemmas.{ok_same, tag_sound}
use Rattle.buffa_bytes.proofs.UnreadLemmas.{no_number}
use Rattle.buffa_bytes.proofs.UnreadLemmas as at_left
use Rattle.buffa_bytes.proofs.StepLemmas.{agree_ok}
use Rattle.buffa_bytes.proofs.TailLemmas.{tail_dropped}
use Rattle.buffa_bytes.proofs.VarintLemmas.{varint_sound}
use Rattle.buffa_bytes.specs.Unread.{past_no_delimited, past_no_tag, past_no_varint, IsTailOf}
use Rattle.buffa_bytes.specs.declared.error.DecodeError.{DecodeError}
use Rattle.buffa_bytes.specs.declared.error.DecodeError.TheVariants.{UnexpectedEof}
use Rattle.buffa_bytes.proofs.LendLemmas.{delimited_front}
use Rattle.buffa_bytes.specs.declared.wire_type.WireType.{WireType}
use Rattle.buffa_bytes.specs.Field.{TagFault, TakesDelimited, TakesTag}
use Rattle.buffa_bytes.specs.Readings.{taken, varint_at, delimited_at, tag_at}

pub tail_behind : (front rest all : List ℕ) → all ≡ front ++ rest → IsTailOf rest all
tail_behind front rest all e = tail_dropped (length front) all rest (sym (ap (drop (length front)) e ∙ drop-append_seam front rest))

pub tag_tail : (bs rest : List ℕ) (n : ℕ) (w : WireType) → tag_at bs ≡ Ok (n, w, rest) → IsTailOf rest bs
tag_tail bs rest n w h =
    let t = agree_ok (tag_at bs) (n, w, rest) (tag_sound bs) h in
    tail_behind t.0 rest bs t.2

pub behind_length : (n : ℕ) (bs mid : List ℕ) → varint_at bs ≡ Ok (n, mid) → IsTailOf mid bs
behind_length n bs mid h =
    let t = agree_ok (varint_at bs) (n, mid) (varint_sound bs) h in
    tail_behind t.0 mid bs t.2

pub past_tag_tail : (bs : List ℕ) (f : DecodeError) → TagFault bs f → IsTailOf (past_no_tag bs) bs
past_tag_tail bs f (inl h) = tail_dropped 10 bs (past_no_tag bs) (no_number bs f h).0
past_tag_tail bs f (inr (n, rest, t, bad)) = subst (λ z. IsTailOf z bs) (sym (at_left.no_tag bs n rest t)) (tail_behind t.0 rest bs t.2)

pub delimited_short : (bs : List ℕ) (f : DecodeError) → varint_at bs ≡ Err f → delimited_at bs ≡ Err f
delimited_short bs f v = rw v refl

-- the same, where they are there, and where they aren't
pub cut_front : (n : ℕ) (bs mid rest : List ℕ) → varint_at bs ≡ Ok (n, mid) → n ≤ length mid → rest ≡ drop n mid → delimited_at bs ≡ Ok (take n mid, rest)
cut_front n bs mid rest v fits follows = rw follows (delimited_front n bs mid (take n mid) v (record { is = refl; fits = fits }))

pub cut_short : (n : ℕ) (bs mid : List ℕ) → varint_at bs ≡ Ok (n, mid) → length mid < n → delimited_at bs ≡ Err UnexpectedEof
unfolding taken
cut_short n bs mid v few = rw (v, lt-ltb (length mid) n few) refl

-- what follows no length
pub past_short : (bs unread : List ℕ) (f : DecodeError) → varint_at bs ≡ Err f → unread ≡ past_no_varint bs → unread ≡ past_no_delimited bs
unfolding past_no_delimited
past_short bs unread f v h = h ∙ sym (rw (past_no_delimited, v) refl)

pub delimited_tail : (bs e rest : List ℕ) → delimited_at bs ≡ Ok (e, rest) → IsTailOf rest bs
delimited_tail bs e rest h =
    let t = agree_ok (delimited_at bs) (e, rest) (delimited_sound bs) h in
    tail_behind (t.0 ++ e) rest bs (t.2 ∙ sym (append_assoc t.0 e rest))

-- a tag, or a length and so many bytes, begins bytes where it is read there
pub tag_there : (bs rest : List ℕ) (n : ℕ) (w : WireType) → tag_at bs ≡ Ok (n, w, rest) → TakesTag bs n w rest
tag_there bs rest n w h = let t = agree_ok (tag_at bs) (n, w, rest) (tag_sound bs) h in (t.0, t.1, t.2)

pub delimited_there : (bs e rest : List ℕ) → delimited_at bs ≡ Ok (e, rest) → TakesDelimited bs e rest
delimited_there bs e rest h = let t = agree_ok (delimited_at bs) (e, rest) (delimited_sound bs) h in (t.0, t.1, t.2)

-- none does where they are refused
pub not_delimited : (bs : List ℕ) (x : DecodeError) → delimited_at bs ≡ Err x → (e rest : List ℕ) → TakesDelimited bs e rest → ⊥
not_delimited bs x h e rest t = let k = sym h ∙ delimited_taken bs e rest t in cc

-- one rest follows a length and so many bytes
pub one_rest : (bs e rest x after : List ℕ) → delimited_at bs ≡ Ok (e, rest) → TakesDelimited bs x after → rest ≡ after
one_rest bs e rest x after h t = ap (λ (p : List ℕ × List ℕ). p.1) (ok_same (sym h ∙ delimited_taken bs x after t))

-- one number, one wire type, and one rest follows a tag
pub one_number : (bs a b : List ℕ) (m n : ℕ) (v w : WireType) → tag_at bs ≡ Ok (m, v, a) → tag_at bs ≡ Ok (n, w, b) → m ≡ n
one_number bs a b m n v w h k = ap (λ (t : ℕ × WireType × List ℕ). t.0) (ok_same (sym h ∙ k))

pub one_wire : (bs a b : List ℕ) (m n : ℕ) (v w : WireType) → tag_at bs ≡ Ok (m, v, a) → tag_at bs ≡ Ok (n, w, b) → v ≡ w
one_wire bs a b m n v w h k = ap (λ (t : ℕ × WireType × List ℕ). t.1) (ok_same (sym h ∙ k))

pub one_after : (bs a b : List ℕ) (m n : ℕ) (v w : WireType) → tag_at bs ≡ Ok (m, v, a) → tag_at bs ≡ Ok (n, w, b) → a ≡ b
one_after bs a b m n v w h k = ap (λ (t : ℕ × WireType × List ℕ). t.2) (ok_same (sym h ∙ k))

-- where no tag begins them, none does
pub no_tag : {P : Type 0} (bs : List ℕ) (f : DecodeError) → tag_at bs ≡ Err f → (n : ℕ) (w : WireType) (rest : List ℕ) → tag_at bs ≡ Ok (n, w, rest) → P
no_tag bs f h n w rest k = let z = sym h ∙ k in cc
