-- What the definitions of frames say together.
use Rattle.std.proofs.Common.{◌≡◌, inl, inr, ℕ, ◌+◌, ◌-◌, ◌^◌, ◌<◌, ◌≤◌, List, [], ◌∷◌, ◌++◌, length, refl, sym, ap, subst, ◌∙◌, arith, append_assoc, append-nil, length-append}
use Rattle.std.specs.List.{All}
use Rattle.std.proofs.lemmas.Bool.{cases_lt}
use Rattle.std.proofs.lemmas.List.{nil_from_length}
use Rattle.std.proofs.lemmas.List.Elements.{All-head, All-tail}
use Rattle.buffa_bytes.specs.Varint.{Continue, IsVarint, TakesVarint, base128, varint_encoding}
use Rattle.buffa_bytes.specs.Values.{delimited_encoding}
use Rattle.buffa_bytes.proofs.VarintLemmas.{IsVarint-varint_encoding, varint_falls}
use Rattle.buffa_frames.specs.declared.error.FrameFault.{FrameFault}
use Rattle.buffa_frames.specs.declared.error.FrameFault.TheVariants.{MalformedLength, TooLong}
use Rattle.buffa_frames.specs.declared.at_front.Front.{Front}
use Rattle.buffa_frames.specs.declared.at_front.Front.TheVariants.{Frame, More, Refused}
use Rattle.buffa_frames.specs.Frames.{AreFrames, Completes, IsFrame, IsNoFrame, NeedsMore, TakesFrame, frames_encoding}
use Rattle.buffa_frames.specs.AtFront.{IsFrameAt, ReadsFront}
use Rattle.buffa_frames.proofs.SpellingLemmas.{Continue-front, low_le, one_varint, shorter_front}
use Rattle.buffa_frames.proofs.FrontLemmas.{frame_taken, needs_body, needs_digits}
use Rattle.buffa_frames.proofs.StreamLemmas.{begun_no_frame, begun_not_refused}

-- ---- one answer

frame_no_more : (maximum start end fewest : ℕ) (bytes : List ℕ) → IsFrameAt maximum bytes start end → NeedsMore maximum bytes fewest → ⊥
frame_no_more maximum start end fewest bytes f n = let (body, rest, t) = frame_taken maximum start end bytes f in begun_no_frame maximum bytes body rest (fewest, n) t

frame_no_refusal : (maximum start end : ℕ) (bytes : List ℕ) (fault : FrameFault) → IsFrameAt maximum bytes start end → IsNoFrame maximum bytes fault → ⊥
frame_no_refusal maximum start end bytes fault f r =
    let (body, rest, t) = frame_taken maximum start end bytes f in
    r.never [] (body, rest, subst (λ z. TakesFrame maximum z body rest) (sym (append-nil bytes)) t)

one_frame : (maximum : ℕ) (bytes : List ℕ) (s e t f : ℕ) → IsFrameAt maximum bytes s e → IsFrameAt maximum bytes t f → (s ≡ t) × (e ≡ f)
one_frame maximum bytes s e t f a b =
    let same = one_varint bytes (length a.body) (length b.body) (a.body ++ a.rest) (b.body ++ b.rest) (a.spelling, a.is_length, a.split) (b.spelling, b.is_length, b.split) in
    let starts : s ≡ t = omega (arith, a.starts, b.starts, ap length a.split, ap length b.split, ap length same.1, length-append a.spelling (a.body ++ a.rest), length-append b.spelling (b.body ++ b.rest)) in
    (starts, omega (arith, a.ends, b.ends, same.0, starts))

one_count : (maximum m n : ℕ) (bytes : List ℕ) → NeedsMore maximum bytes m → NeedsMore maximum bytes n → m ≡ n
one_count maximum m n bytes a b = omega (arith, a.least b.more b.completes, b.least a.more a.completes, a.many, b.many)

one_fault : (maximum : ℕ) (bytes : List ℕ) (d e : FrameFault) → IsNoFrame maximum bytes d → IsNoFrame maximum bytes e → d ≡ e
one_fault maximum bytes MalformedLength MalformedLength a b = refl
one_fault maximum bytes MalformedLength TooLong a b = absurd (a.why.1 b.why)
one_fault maximum bytes TooLong MalformedLength a b = absurd (b.why.1 a.why)
one_fault maximum bytes TooLong TooLong a b = refl

pub one_front : (maximum : ℕ) (bytes : List ℕ) (one other : Front) → ReadsFront maximum bytes one → ReadsFront maximum bytes other → one ≡ other
one_front maximum bytes (Frame s e) (Frame t f) a b = let same = one_frame maximum bytes s e t f a b in λ i. Frame (same.0 i) (same.1 i)
one_front maximum bytes (Frame s e) (More n) a b = absurd (frame_no_more maximum s e n bytes a b)
one_front maximum bytes (Frame s e) (Refused d) a b = absurd (frame_no_refusal maximum s e bytes d a b)
one_front maximum bytes (More m) (Frame t f) a b = absurd (frame_no_more maximum t f m bytes b a)
one_front maximum bytes (More m) (More n) a b = ap (λ k. More k) (one_count maximum m n bytes a b)
one_front maximum bytes (More m) (Refused d) a b = absurd (begun_not_refused maximum bytes d (m, a) b)
one_front maximum bytes (Refused d) (Frame t f) a b = absurd (frame_no_refusal maximum t f bytes d b a)
one_front maximum bytes (Refused d) (More n) a b = absurd (begun_not_refused maximum bytes d (n, b) a)
one_front maximum bytes (Refused d) (Refused e) a b = ap (λ k. Refused k) (one_fault maximum bytes d e a b)

-- ---- what is written

pub written_front : (maximum : ℕ) (body rest : List ℕ) → length body ≤ maximum → length body < 2 ^ 64 →
    IsFrameAt maximum (delimited_encoding body ++ rest) (length (varint_encoding (length body))) (length (varint_encoding (length body)) + length body)
written_front maximum body rest w h = record {
  spelling = varint_encoding (length body);
  body = body;
  rest = rest;
  split = append_assoc (varint_encoding (length body)) body rest;
  is_length = IsVarint-varint_encoding (length body) h;
  within = w;
  starts = refl;
  ends = refl;
}

pub written_frames : (bodies : List (List ℕ)) → All (λ body. length body < 2 ^ 64) bodies → AreFrames bodies (frames_encoding bodies)
written_frames [] h = refl
written_frames (body ∷ bodies) h =
    let fits : length body < 2 ^ 64 = All-head (λ (b : List ℕ). length b < 2 ^ 64) body bodies h in (
      delimited_encoding body,
      frames_encoding bodies,
      (varint_encoding (length body), IsVarint-varint_encoding (length body) fits, refl),
      refl,
      written_frames bodies (All-tail (λ (b : List ℕ). length b < 2 ^ 64) body bodies h),
    )

-- ---- a cut frame

-- a proper beginning of a spelling continues
cut_spelling : (t front rest : List ℕ) (n : ℕ) → IsVarint t n → t ≡ front ++ rest → 0 < length rest → Continue front × (length front < 10) × (base128 front ≤ n)
cut_spelling t front rest n v e s =
    let short : length front ≤ length v.front = omega (arith, ap length v.spelled, ap length e, length-append front rest, length-append v.front (v.last ∷ [])) in
    let x = shorter_front front rest v.front (v.last ∷ []) (sym e ∙ v.spelled) short in
    let is : n ≡ base128 (front ++ rest) = v.value ∙ ap base128 e in
    (Continue-front front x.0 (subst Continue x.1 v.continue), omega (arith, short, v.short), omega (arith, is, low_le front rest))

pub cut_frame : (maximum : ℕ) (frame body front rest : List ℕ) → IsFrame frame body → length body ≤ maximum → frame ≡ front ++ rest → 0 < length rest →
    (fewest : ℕ) × NeedsMore maximum front fewest × (fewest ≤ length rest)
cut_frame maximum frame body front rest (t, v, is) w e s =
    let whole : Completes maximum front rest = (body, [], ((t, v, sym e ∙ is ∙ ap (λ z. t ++ z) (sym (append-nil body))), w)) in
    elim (cases_lt (length front) (length t)) [
      | inl few ↦ (
          let x = shorter_front front rest t body (sym e ∙ is) (omega arith) in
          let c = cut_spelling t front x.0 (length body) v x.1 (omega (arith, ap length x.1, length-append front x.0)) in
          let n = needs_digits maximum (base128 front) front (c.0, c.1, refl, omega (arith, c.2, w)) in
          (base128 front + 1, n, n.least rest whole))
      | inr many ↦ (
          let x = shorter_front t body front rest (sym is ∙ e) many in
          let n = needs_body maximum (length body) (length t) front (t, x.0, v, x.1, refl, w) (omega (arith, ap length x.1, ap length x.2, length-append t x.0, length-append x.0 rest)) in
          (length body - (length front - length t), n, n.least rest whole))
    ]

-- ---- one list of bodies

some_frame : (frame body : List ℕ) → IsFrame frame body → 0 < length frame
some_frame frame body (t, v, is) = omega (arith, ap length is, length-append t body, varint_falls t (length body) v)

-- two frames that begin the same bytes have one body, and are followed by the same
same_first : (bytes f g x y b c : List ℕ) → IsFrame f b → IsFrame g c → bytes ≡ f ++ x → bytes ≡ g ++ y → (b ≡ c) × (x ≡ y)
same_first bytes f g x y b c (t, v, is) (u, w, iz) e k =
    let p : TakesVarint bytes (length b) (b ++ x) = (t, v, e ∙ ap (λ z. z ++ x) is ∙ append_assoc t b x) in
    let q : TakesVarint bytes (length c) (c ++ y) = (u, w, k ∙ ap (λ z. z ++ y) iz ∙ append_assoc u c y) in
    let s = one_varint bytes (length b) (length c) (b ++ x) (c ++ y) p q in
    let r = shorter_front b x c y s.1 (omega (arith, s.0)) in
    let none : r.0 ≡ [] = nil_from_length r.0 (omega (arith, s.0, ap length r.1, length-append b r.0)) in
    (sym (r.1 ∙ ap (λ z. b ++ z) none ∙ append-nil b), r.2 ∙ ap (λ z. z ++ y) none)

pub one_reading : (one other : List (List ℕ)) (bytes : List ℕ) → AreFrames one bytes → AreFrames other bytes → one ≡ other
one_reading [] [] bytes a b = refl
one_reading [] (c ∷ cs) bytes a (frame, rest, h, e, more) = absurd (omega (arith, some_frame frame c h, ap length a, ap length e, length-append frame rest))
one_reading (b ∷ bs) [] bytes (frame, rest, h, e, more) a = absurd (omega (arith, some_frame frame b h, ap length a, ap length e, length-append frame rest))
one_reading (b ∷ bs) (c ∷ cs) bytes (f, x, h, e, m) (g, y, k, d, n) =
    let s = same_first bytes f g x y b c h k e d in
    let t = one_reading bs cs x m (subst (λ z. AreFrames cs z) (sym s.1) n) in
    λ i. s.0 i ∷ t i
