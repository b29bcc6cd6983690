-- What readers leave of bytes that they refuse.
use Rattle.std.proofs.Common.{◌≡◌, ◌≢◌, ℕ, ◌+◌, ◌≤◌, ◌<◌, inl, inr, List, [], ◌∷◌, ◌++◌, length, take, drop, Result, Ok, Err, refl, sym, ap, subst, ◌∙◌, arith, length-append, length-drop, drop-drop}
use Rattle.std.proofs.Math.ListN.{drop_of_length-le}
use Rattle.std.proofs.Math.Seq.{drop-append_seam}
use Rattle.std.proofs.lemmas.Bool.{lt-ltb, le-ltb, cases_lt}
use Rattle.std.specs.Prelude.{OnErr}
use Rattle.buffa_bytes.specs.declared.wire_type.WireType.{WireType}
use Rattle.buffa_bytes.specs.declared.wire_type.WireType.TheVariants.{Varint, Fixed64, LengthDelimited, EndGroup, Fixed32}
use Rattle.buffa_bytes.specs.declared.error.DecodeError.{DecodeError}
use Rattle.buffa_bytes.specs.declared.error.DecodeError.TheVariants.{OutOfMemory}
use Rattle.buffa_bytes.specs.Unread.{LeavesUnlessFull, past_no_varint, past_no_payload, past_no_tag, past_no_delimited, IsFrontOf, IsTailOf}
use Rattle.buffa_bytes.specs.Readings.{varint_at, past, taken, delimited_at, Gives, GivesUnlessFull}
use Rattle.buffa_bytes.specs.Varint.{TakesVarint, VarintFault}
use Rattle.buffa_bytes.proofs.DelimitedLemmas.{delimited_sound, taken_complete, taken_sound}
use Rattle.buffa_bytes.proofs.StepLemmas.{agree_ok}
use Rattle.buffa_bytes.proofs.TailLemmas.{tail_whole}
use Rattle.buffa_bytes.proofs.VarintLemmas.{varint_complete, varint_faulty}

-- ---- varints

-- one byte more
pub left_one : (n byte : ℕ) (all mid tail : List ℕ) → mid ≡ drop n all → mid ≡ byte ∷ tail → tail ≡ drop (n + 1) all
left_one n byte all mid tail m e = sym (ap (drop 1) e) ∙ ap (drop 1) m ∙ drop-drop 1 n all

-- the bytes ended before the tenth
pub left_none : (n : ℕ) (all mid new : List ℕ) → n < 10 → mid ≡ drop n all → mid ≡ [] → new ≡ [] → new ≡ past_no_varint all
unfolding past_no_varint
left_none n all mid new h m e d =
    d ∙ sym (drop_of_length-le all {i = 10} (omega (arith, h, length-drop n all, ap length m, ap length e)))

-- the tenth byte
pub left_tenth : (n byte : ℕ) (all mid new : List ℕ) → n ≡ 9 → mid ≡ drop n all → mid ≡ byte ∷ new → new ≡ past_no_varint all
unfolding past_no_varint
left_tenth n byte all mid new is m e = left_one n byte all mid new m e ∙ ap (λ k. drop (k + 1) all) is

-- ---- delimited encodings
abbrev Taken : Type 0
Taken = Result (List ℕ × List ℕ) DecodeError

abbrev good : List ℕ × List ℕ → Taken
good p = Ok p

abbrev bad : DecodeError → Taken
bad e = Err e

abbrev passed : List ℕ → Result (List ℕ) DecodeError
passed bs = Ok bs

abbrev refused : DecodeError → Result (List ℕ) DecodeError
refused e = Err e

-- the length stands there, and passes the end
pub past_cut : (n : ℕ) (bs mid : List ℕ) → varint_at bs ≡ Ok (n, mid) → length mid < n → mid ≡ past_no_delimited bs
unfolding past_no_delimited
past_cut n bs mid v h = rw (past_no_delimited, v, lt-ltb (length mid) n h) refl

-- the bytes stand there
delimited_whole : (n : ℕ) (bs mid : List ℕ) → varint_at bs ≡ Ok (n, mid) → n ≤ length mid → past_no_delimited bs ≡ drop n mid
unfolding past_no_delimited
delimited_whole n bs mid v h = rw (past_no_delimited, v, le-ltb (length mid) n h) refl

taken_whole : (n : ℕ) (mid p new : List ℕ) → taken n mid ≡ Ok (p, new) → (n ≤ length mid) × (new ≡ drop n mid)
taken_whole n mid p new e =
    let t = agree_ok (taken n mid) (p, new) (taken_sound n mid) e in
    (omega (arith, t.0, ap length t.1, length-append p new), sym (ap (λ k. drop k mid) (sym t.0) ∙ ap (drop (length p)) t.1 ∙ drop-append_seam p new))

-- a fault of the length, as `?` hands it on
pub left_no_length : {X : Type 0} {r : Result X DecodeError} {e d : DecodeError} → r ≡ Err e → e ≡ d → (bs new : List ℕ) → varint_at bs ≡ Err d → new ≡ past_no_varint bs → LeavesUnlessFull r (past_no_delimited bs) new
unfolding past_no_delimited
left_no_length is same bs new v left =
    let past : past_no_delimited bs ≡ past_no_varint bs = rw (past_no_delimited, v) refl in
    rw is (λ _. left ∙ sym past, subst (λ z. IsTailOf z new) (left ∙ sym past) (tail_whole new))

-- where the whole encoding was read, nothing else was
pub left_read : {X : Type 0} (r : Result X DecodeError) (past new : List ℕ) → new ≡ past → LeavesUnlessFull r past new
left_read (Ok x) past new e = tt
left_read (Err d) past new e = (λ _. e, subst (λ z. IsTailOf z new) e (tail_whole new))

-- the bytes were there, and were passed over
pub left_passed : {X : Type 0} (r : Result X DecodeError) (n : ℕ) (bs mid part new : List ℕ) → varint_at bs ≡ Ok (n, mid) → IsFrontOf part n mid → new ≡ drop n mid → LeavesUnlessFull r (past_no_delimited bs) new
left_passed r n bs mid part new v f e = left_read r (past_no_delimited bs) new (e ∙ sym (delimited_whole n bs mid v f.fits))

-- the bytes were taken
pub left_taken : {X : Type 0} (r : Result X DecodeError) (n : ℕ) (bs mid p new : List ℕ) → varint_at bs ≡ Ok (n, mid) → taken n mid ≡ Ok (p, new) → LeavesUnlessFull r (past_no_delimited bs) new
left_taken r n bs mid p new v e = let h = taken_whole n mid p new e in left_read r (past_no_delimited bs) new (h.1 ∙ sym (delimited_whole n bs mid v h.0))

-- the bytes were not taken
left_err : (d : DecodeError) (n : ℕ) (bs mid new : List ℕ) → varint_at bs ≡ Ok (n, mid) → (d ≢ OutOfMemory → taken n mid ≡ Err d) → (length mid < n → new ≡ mid) → IsTailOf (drop n mid) new →
    (d ≢ OutOfMemory → new ≡ past_no_delimited bs) × IsTailOf (past_no_delimited bs) new
unfolding taken
left_err d n bs mid new v t short within = elim (cases_lt (length mid) n) [
  | inl cut ↦ (let e : new ≡ past_no_delimited bs = short cut ∙ past_cut n bs mid v cut in (λ _. e, subst (λ z. IsTailOf z new) e (tail_whole new)))
  | inr whole ↦ (
    λ no. absurd (let k : good (take n mid, drop n mid) ≡ bad d = sym (rw (le-ltb (length mid) n whole) refl) ∙ t no in cc),
    subst (λ z. IsTailOf z new) (sym (delimited_whole n bs mid v whole)) within,
  )
]

-- as `?` hands it on
pub left_refused : {X : Type 0} {r : Result X DecodeError} {e d : DecodeError} → r ≡ Err e → e ≡ d → (n : ℕ) (bs mid new : List ℕ) → varint_at bs ≡ Ok (n, mid) → (d ≢ OutOfMemory → taken n mid ≡ Err d) →
    (length mid < n → new ≡ mid) → IsTailOf (drop n mid) new → LeavesUnlessFull r (past_no_delimited bs) new
left_refused is same n bs mid new v t short within = rw (is, same) (left_err _ n bs mid new v t short within)

-- as it is handed on
pub left_copied : {X : Type 0} (view : X → List ℕ × List ℕ) (r : Result X DecodeError) (n : ℕ) (bs mid new : List ℕ) → varint_at bs ≡ Ok (n, mid) → GivesUnlessFull view r (taken n mid) →
    (length mid < n → new ≡ mid) → IsTailOf (drop n mid) new → LeavesUnlessFull r (past_no_delimited bs) new
left_copied view (Ok x) n bs mid new v t short within = tt
left_copied view (Err d) n bs mid new v t short within = left_err d n bs mid new v t short within

-- the encoding was read, and the copy of its bytes wasn't made
pub left_behind : {X : Type 0} (r : Result X DecodeError) (bs p new : List ℕ) → delimited_at bs ≡ Ok (p, new) → LeavesUnlessFull r (past_no_delimited bs) new
left_behind r bs p new e =
    let t = agree_ok (delimited_at bs) (p, new) (delimited_sound bs) e in
    let v : varint_at bs ≡ Ok (length p, p ++ new) = ap varint_at t.2 ∙ varint_complete t.0 (length p) (p ++ new) t.1 in
    left_taken r (length p) bs (p ++ new) p new v (taken_complete (length p) p new refl)

-- ---- payloads that are passed over

-- so many bytes
pub left_bytes : (r : Result (Unit {0}) DecodeError) (n : ℕ) (bs new : List ℕ) → Gives (λ _. new) r (past n bs) → (length bs < n → new ≡ bs) → OnErr r (new ≡ bs)
unfolding past
left_bytes (Ok x) n bs new h short = tt
left_bytes (Err d) n bs new h short = elim (cases_lt (length bs) n) [
  | inl cut ↦ short cut
  | inr whole ↦ absurd (let k : passed (drop n bs) ≡ refused d = sym (rw (le-ltb (length bs) n whole) refl) ∙ h in cc)
]

-- so many bytes, behind their length
pub left_behind_length : (r : Result (Unit {0}) DecodeError) (n : ℕ) (bs mid new : List ℕ) → varint_at bs ≡ Ok (n, mid) → Gives (λ _. new) r (past n mid) → (length mid < n → new ≡ mid) → OnErr r (new ≡ past_no_delimited bs)
unfolding past
left_behind_length (Ok x) n bs mid new v h short = tt
left_behind_length (Err d) n bs mid new v h short = elim (cases_lt (length mid) n) [
  | inl cut ↦ short cut ∙ past_cut n bs mid v cut
  | inr whole ↦ absurd (let k : passed (drop n mid) ≡ refused d = sym (rw (le-ltb (length mid) n whole) refl) ∙ h in cc)
]

-- what a payload of this wire type leaves
pub left_of_varint : {r : Result (Unit {0}) DecodeError} {e : DecodeError} → r ≡ Err e → (w : WireType) (bs new : List ℕ) → w ≡ Varint → new ≡ past_no_varint bs → OnErr r (new ≡ past_no_payload w bs)
unfolding past_no_payload
left_of_varint is w bs new k h = rw (is, k) h

pub left_of_length : {r : Result (Unit {0}) DecodeError} {e d : DecodeError} → r ≡ Err e → (w : WireType) (bs new : List ℕ) → w ≡ LengthDelimited → varint_at bs ≡ Err d → new ≡ past_no_varint bs → OnErr r (new ≡ past_no_payload w bs)
unfolding past_no_payload past_no_delimited
left_of_length is w bs new k v h = rw (is, k) (h ∙ sym (rw (past_no_delimited, v) refl))

pub left_of_delimited : (r : Result (Unit {0}) DecodeError) (w : WireType) (bs new : List ℕ) → w ≡ LengthDelimited → OnErr r (new ≡ past_no_delimited bs) → OnErr r (new ≡ past_no_payload w bs)
unfolding past_no_payload
left_of_delimited r w bs new k h = rw k h

pub left_of_fixed : (r : Result (Unit {0}) DecodeError) (w v : WireType) (bs new : List ℕ) → w ≡ v → past_no_payload v bs ≡ bs → OnErr r (new ≡ bs) → OnErr r (new ≡ past_no_payload w bs)
left_of_fixed r w v bs new k is h = rw (k, is) h

pub fixed64_stays : (bs : List ℕ) → past_no_payload Fixed64 bs ≡ bs
unfolding past_no_payload
fixed64_stays bs = refl

pub fixed32_stays : (bs : List ℕ) → past_no_payload Fixed32 bs ≡ bs
unfolding past_no_payload
fixed32_stays bs = refl

pub end_stays : (bs : List ℕ) → past_no_payload EndGroup bs ≡ bs
unfolding past_no_payload
end_stays bs = refl

-- ---- what these rests are, in the words of the grammar
pub no_varint : (bs : List ℕ) → past_no_varint bs ≡ drop 10 bs
unfolding past_no_varint
no_varint bs = refl

varint_taken : (bs : List ℕ) (n : ℕ) (rest : List ℕ) → TakesVarint bs n rest → varint_at bs ≡ Ok (n, rest)
varint_taken bs n rest h = ap varint_at h.2 ∙ varint_complete h.0 n rest h.1

pub no_number : (bs : List ℕ) (e : DecodeError) → VarintFault bs e → (past_no_tag bs ≡ drop 10 bs) × (past_no_delimited bs ≡ drop 10 bs)
unfolding past_no_tag past_no_delimited past_no_varint
no_number bs e h = (rw (past_no_tag, varint_faulty bs e h) refl, rw (past_no_delimited, varint_faulty bs e h) refl)

pub no_tag : (bs : List ℕ) (n : ℕ) (rest : List ℕ) → TakesVarint bs n rest → past_no_tag bs ≡ rest
unfolding past_no_tag
no_tag bs n rest h = rw (past_no_tag, varint_taken bs n rest h) refl

pub no_delimited_cut : (bs : List ℕ) (n : ℕ) (rest : List ℕ) → TakesVarint bs n rest → length rest < n → past_no_delimited bs ≡ rest
no_delimited_cut bs n rest h few = sym (past_cut n bs rest (varint_taken bs n rest h) few)

pub no_delimited_whole : (bs : List ℕ) (n : ℕ) (rest : List ℕ) → TakesVarint bs n rest → n ≤ length rest → past_no_delimited bs ≡ drop n rest
no_delimited_whole bs n rest h some = delimited_whole n bs rest (varint_taken bs n rest h) some

pub no_payload : (bs : List ℕ) → (past_no_payload Varint bs ≡ drop 10 bs) × (past_no_payload LengthDelimited bs ≡ past_no_delimited bs)
unfolding past_no_payload past_no_varint
no_payload bs = (refl, refl)
