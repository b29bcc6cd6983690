-- Frames of a stream: what is missing of one, and what a read adds.
use Rattle.std.proofs.Common.{◌≡◌, inl, inr, ℕ, ◌+◌, ◌-◌, ◌<◌, ◌≤◌, List, [], ◌∷◌, ◌++◌, length, take, drop, sym, ap, subst, ◌∙◌, arith, append_assoc, append-nil, length-append, length-take, length-drop}
use Rattle.std.specs.Prelude.{Result, Err, IfErr}
use Rattle.std.specs.Io.KnownBytes.{Consumes, IsAtEnd, Keeps}
use Rattle.std.proofs.KnownBytes.{Consumes-nil, Consumes-trans, Consumes-kept}
use Rattle.std.proofs.lemmas.Bool.{cases_lt}
use Rattle.std.proofs.Math.Seq.{take-add}
use Rattle.buffa_bytes.specs.Varint.{IsVarint}
use Rattle.buffa_frames.specs.declared.error.FrameFault.{FrameFault}
use Rattle.buffa_frames.specs.declared.error.FrameError.{FrameError}
use Rattle.buffa_frames.specs.declared.error.FrameError.TheVariants.{Refused, Cut, Stream, OutOfMemory}
use Rattle.buffa_frames.specs.Frames.{IsNoFrame, TakesFrame}
use Rattle.buffa_frames.specs.AtFront.{BeginsLength, HasLength}
use Rattle.buffa_frames.specs.Stream.{IsBegun, IsFrameWithin, IsHindered, IsMissing, IsOfStream, IsPart, StreamBytes, ReadsBehind, ReadsOn, StopsFrame}
use Rattle.buffa_frames.proofs.SpellingLemmas.{shorter_front}
use Rattle.buffa_frames.proofs.FrontLemmas.{frame_taken, frame_there, needs_body, needs_digits}

-- ---- what is missing

no_more : (held more : List ℕ) → length more < 1 → held ++ more ≡ held
no_more held [] l = append-nil held
no_more held (b ∷ more) l = absurd (omega arith)

pub missing_one : (maximum low : ℕ) (held : List ℕ) → BeginsLength maximum held low → IsMissing maximum held 1
missing_one maximum low held h = (
  (λ more l. subst (λ z. IsBegun maximum z) (sym (no_more held more l)) (low + 1, needs_digits maximum low held h)),
  (λ s. omega (arith, h.1)),
  λ e. absurd (omega arith),
)

ten_digits : (t : List ℕ) (n : ℕ) → IsVarint t n → length t ≤ 10
ten_digits t n v = omega (arith, ap length v.spelled, length-append v.front (v.last ∷ []), v.short)

more_length : (maximum n digits : ℕ) (held more : List ℕ) → HasLength maximum held n digits → HasLength maximum (held ++ more) n digits
more_length maximum n digits held more (t, rest, v, split, d, w) = (t, rest ++ more, v, ap (λ z. z ++ more) split ∙ append_assoc t rest more, d, w)

length_within : (maximum n digits : ℕ) (held : List ℕ) → HasLength maximum held n digits → (digits ≤ length held) × (digits ≤ 10) × (n ≤ maximum)
length_within maximum n digits held (t, rest, v, split, d, w) = (omega (arith, ap length split, length-append t rest, d), omega (arith, d, ten_digits t n v), w)

pub missing_body : (maximum n digits : ℕ) (held : List ℕ) → HasLength maximum held n digits → IsMissing maximum held (n - (length held - digits))
missing_body maximum n digits held h =
    let k = length_within maximum n digits held h in (
      (λ more l. (n - (length (held ++ more) - digits), needs_body maximum n digits (held ++ more) (more_length maximum n digits held more h) (omega (arith, k.0, l, length-append held more)))),
      (λ s. omega (arith, k.0, k.1, k.2)),
      λ e. frame_taken maximum digits (digits + n) held (frame_there maximum n digits held h (omega (arith, e))),
    )

pub missing_begun : (maximum missing : ℕ) (held : List ℕ) → IsMissing maximum held missing → 0 < missing → IsBegun maximum held
missing_begun maximum missing held m s = subst (λ z. IsBegun maximum z) (append-nil held) (m.0 [] s)

-- ---- what has begun is no frame, and isn't refused

pub begun_no_frame : (maximum : ℕ) (bytes body behind : List ℕ) → IsBegun maximum bytes → TakesFrame maximum bytes body behind → ⊥
begun_no_frame maximum bytes body behind (fewest, n) t =
    let l = n.least [] (body, behind, subst (λ z. TakesFrame maximum z body behind) (sym (append-nil bytes)) t) in
    omega (arith, l, n.some)

pub begun_not_refused : (maximum : ℕ) (bytes : List ℕ) (fault : FrameFault) → IsBegun maximum bytes → IsNoFrame maximum bytes fault → ⊥
begun_not_refused maximum bytes fault (fewest, n) r = r.never n.more n.completes

pub refused_no_frame : (maximum : ℕ) (bytes body behind : List ℕ) (fault : FrameFault) → IsNoFrame maximum bytes fault → TakesFrame maximum bytes body behind → ⊥
refused_no_frame maximum bytes body behind fault r t = r.never [] (body, behind, subst (λ z. TakesFrame maximum z body behind) (sym (append-nil bytes)) t)

-- ---- no byte in vain

pub part_none : (maximum : ℕ) → IsPart maximum []
part_none maximum front rest e s = absurd (omega (arith, ap length e, length-append front rest))

pub part_of_none : (maximum : ℕ) (held : List ℕ) → held ≡ [] → IsPart maximum held
part_of_none maximum held e = subst (λ z. IsPart maximum z) (sym e) (part_none maximum)

pub part_more : (maximum missing : ℕ) (held read : List ℕ) → IsPart maximum held → IsMissing maximum held missing → length read ≤ missing → IsPart maximum (held ++ read)
part_more maximum missing held read p m l front rest e s = elim (cases_lt (length front) (length held)) [
  | inl few ↦ (
      let x = shorter_front front rest held read (sym e) (omega arith) in
      p front x.0 x.1 (omega (arith, ap length x.1, length-append front x.0)))
  | inr many ↦ (
      let x = shorter_front held read front rest e many in
      let begun : IsBegun maximum front = subst (λ z. IsBegun maximum z) (sym x.1) (m.0 x.0 (omega (arith, ap length x.2, length-append x.0 rest))) in
      ((λ body behind t. begun_no_frame maximum front body behind begun t), λ fault r. begun_not_refused maximum front fault begun r))
]

-- so a frame at the front is all that is held
pub whole_frame : (maximum : ℕ) (held body rest : List ℕ) → IsPart maximum held → TakesFrame maximum held body rest → IsFrameWithin maximum held
whole_frame maximum held body [] p ((t, v, is), w) = (body, (t, v, is ∙ ap (λ z. t ++ z) (append-nil body)), w)
whole_frame maximum held body (b ∷ rest) p ((t, v, is), w) =
    absurd ((p (t ++ body) (b ∷ rest) (is ∙ sym (append_assoc t body (b ∷ rest))) (omega arith)).0 body [] ((t, v, ap (λ z. t ++ z) (sym (append-nil body))), w))

-- ---- reads

pub reads_none : (held : List ℕ) (old : StreamBytes) → ReadsOn held held old old
reads_none held old = ([], sym (append-nil held), Consumes-nil old)

pub reads_more : (held mid holds : List ℕ) (old now new : StreamBytes) (read : List ℕ) → ReadsOn held mid old now → holds ≡ mid ++ read → Consumes now new read → ReadsOn held holds old new
reads_more held mid holds old now new read (r, is, c) e d = (r ++ read, e ∙ ap (λ z. z ++ read) is ∙ append_assoc held r read, Consumes-trans old now new r read c d)

pub reads_kept : (held mid holds : List ℕ) (old now new : StreamBytes) → ReadsOn held mid old now → holds ≡ mid → Keeps now new → ReadsOn held holds old new
reads_kept held mid holds old now new (r, is, c) e k = (r, e ∙ is, Consumes-kept old now new r c k)

pub stops_begun : (maximum : ℕ) (held : List ℕ) (left : StreamBytes) (e : FrameError) → IsOfStream e → IsBegun maximum held → StopsFrame maximum held left e
stops_begun maximum held left (Refused fault) h b = absurd h
stops_begun maximum held left Cut h b = absurd h
stops_begun maximum held left (Stream error) h b = b
stops_begun maximum held left OutOfMemory h b = b

-- what one read put behind the bytes that were held
pub read_behind_is : (held slice items : List ℕ) (len n want missing : ℕ) (old new : StreamBytes) → len ≡ length held → take len slice ≡ held → length slice ≡ len + want → want ≤ missing → 0 < want → len + n ≤ length slice →
    items ≡ take (len + n) slice → Consumes old new (take n (drop len slice)) × (n ≡ 0 → 0 < length (drop len slice) → IsAtEnd new) → ReadsBehind n missing held items old new
read_behind_is held slice items len n want missing old new k front many w some fits is (c, end) = (
  take n (drop len slice),
  is ∙ take-add len n slice ∙ ap (λ z. z ++ take n (drop len slice)) front,
  omega (arith, length-take n (drop len slice), length-drop len slice),
  omega arith,
  c,
  λ none. end none (omega (arith, length-drop len slice)),
)

pub part_read : (maximum n missing : ℕ) (held holds : List ℕ) (old new : StreamBytes) → IsPart maximum held → IsMissing maximum held missing → ReadsBehind n missing held holds old new → IsPart maximum holds
part_read maximum n missing held holds old new p m (read, is, len, w, c, end) = subst (λ z. IsPart maximum z) (sym is) (part_more maximum missing held read p m (omega arith))

pub reads_read : (held0 held holds : List ℕ) (old now new : StreamBytes) (n missing : ℕ) → ReadsOn held0 held old now → ReadsBehind n missing held holds now new → ReadsOn held0 holds old new
reads_read held0 held holds old now new n missing r (read, is, len, w, c, end) = reads_more held0 held holds old now new read r is c

pub short_read : (maximum n missing : ℕ) (held holds : List ℕ) (old new : StreamBytes) → IsMissing maximum held missing → 0 < missing → ReadsBehind n missing held holds old new → (length holds ≡ length held + n) × (length holds ≤ maximum + 10)
short_read maximum n missing held holds old new m s (read, is, len, w, c, end) =
    let total : length holds ≡ length held + n = omega (arith, ap length is, length-append held read) in
    (total, omega (arith, m.1 s, total))

-- a read that was hindered changed nothing
pub hindered_stops : {T : Type 0} {r : Result T FrameError} {e d : FrameError} → r ≡ Err e → e ≡ d → (maximum missing : ℕ) (held holds : List ℕ) (old new : StreamBytes) → IsHindered d held holds old new → IsMissing maximum held missing → 0 < missing →
    IfErr r (λ k. StopsFrame maximum holds new k)
hindered_stops {e = e} is same maximum missing held holds old new h m s =
    let begun : IsBegun maximum holds = subst (λ z. IsBegun maximum z) (sym h.1) (missing_begun maximum missing held m s) in
    rw is (stops_begun maximum holds new e (subst IsOfStream (sym same) h.0) begun)

pub hindered_part : (maximum : ℕ) (held holds : List ℕ) (old new : StreamBytes) (e : FrameError) → IsHindered e held holds old new → IsPart maximum held → IsPart maximum holds
hindered_part maximum held holds old new e h p = subst (λ z. IsPart maximum z) (sym h.1) p

pub whole_held : (maximum missing : ℕ) (held : List ℕ) → IsPart maximum held → IsMissing maximum held missing → missing ≡ 0 → IsFrameWithin maximum held
whole_held maximum missing held p m e = let (body, rest, t) = m.2 e in whole_frame maximum held body rest p t
