-- What stands at the front of some bytes: a frame, the beginning of one, or neither.
use Rattle.std.proofs.Common.{◌≡◌, inl, inr, ℕ, suc, ◌+◌, ◌-◌, ◌<◌, ◌≤◌, List, [], ◌∷◌, ◌++◌, length, min, replicate, take, drop, Ok, Err, refl, sym, ap, subst, ◌∙◌, arith, append_assoc, append-nil, length-append, length-take}
use Rattle.std.proofs.lemmas.Bool.{cases_lt}
use Rattle.std.proofs.lemmas.List.{drop_at, length-replicate, take-append-drop, take_all, take_at}
use Rattle.buffa_bytes.specs.Varint.{Continue, IsVarint, TakesVarint, VarintFault, base128}
use Rattle.buffa_bytes.specs.Field.{TakesDelimited}
use Rattle.buffa_bytes.specs.Readings.{varint_at}
use Rattle.buffa_bytes.specs.declared.error.DecodeError.{DecodeError}
use Rattle.buffa_bytes.specs.declared.error.DecodeError.TheVariants.{UnexpectedEof, VarintTooLong}
use Rattle.buffa_bytes.proofs.StepLemmas.{agree_err, agree_ok, ok_no_err, ok_same}
use Rattle.buffa_bytes.proofs.DelimitedLemmas.{delimited_taken}
use Rattle.buffa_bytes.proofs.VarintLemmas.{varint_faulty, varint_sound}
use Rattle.buffa_frames.specs.declared.error.FrameFault.TheVariants.{MalformedLength, TooLong}
use Rattle.buffa_frames.specs.Frames.{Completes, IsNoFrame, IsTooLong, NeedsMore, TakesFrame}
use Rattle.buffa_frames.specs.AtFront.{BeginsLength, HasLength, IsFrameAt}
use Rattle.buffa_frames.proofs.SpellingLemmas.{Continue-front, ended_spelling, longer, one_varint, shorter_front, taken_varint, zeros_are_bytes}

-- ---- a length is there

pub length_there : (n : ℕ) (bytes rest : List ℕ) → varint_at bytes ≡ Ok (n, rest) → TakesVarint bytes n rest
length_there n bytes rest h = agree_ok (varint_at bytes) (n, rest) (varint_sound bytes) h

pub has_length : (maximum n : ℕ) (bytes rest : List ℕ) → varint_at bytes ≡ Ok (n, rest) → n ≤ maximum → HasLength maximum bytes n (length bytes - length rest)
has_length maximum n bytes rest h w =
    let (t, v, is) = length_there n bytes rest h in
    (t, rest, v, is, omega (arith, ap length is, length-append t rest), w)

-- the body of a frame at the front lies between its two places
pub frame_body : (maximum start end : ℕ) (bytes body rest : List ℕ) → IsFrameAt maximum bytes start end → TakesFrame maximum bytes body rest → take (end - start) (drop start bytes) ≡ body
frame_body maximum start end bytes body rest f (t, w) =
    let mine : TakesDelimited bytes f.body f.rest = (f.spelling, f.is_length, f.split) in
    let same = ok_same (sym (delimited_taken bytes f.body f.rest mine) ∙ delimited_taken bytes body rest t) in
    let behind : drop start bytes ≡ f.body ++ f.rest = ap (drop start) f.split ∙ drop_at f.spelling (f.body ++ f.rest) start (sym f.starts) in
    ap (take (end - start)) behind ∙ take_at f.body f.rest (end - start) (omega (arith, f.ends)) ∙ ap (λ p. p.0) same

pub frame_taken : (maximum start end : ℕ) (bytes : List ℕ) → IsFrameAt maximum bytes start end → (body : List ℕ) × (rest : List ℕ) × TakesFrame maximum bytes body rest
frame_taken maximum start end bytes f = (f.body, f.rest, ((f.spelling, f.is_length, f.split), f.within))

pub frame_there : (maximum n digits : ℕ) (bytes : List ℕ) → HasLength maximum bytes n digits → n ≤ length bytes - digits → IsFrameAt maximum bytes digits (digits + n)
frame_there maximum n digits bytes (t, rest, v, split, d, w) l =
    let there : n ≤ length rest = omega (arith, ap length split, length-append t rest, d) in
    let many : length (take n rest) ≡ n = omega (arith, length-take n rest) in
    record {
      spelling = t;
      body = take n rest;
      rest = drop n rest;
      split = split ∙ ap (λ z. t ++ z) (sym (take-append-drop n rest));
      is_length = subst (λ k. IsVarint t k) (sym many) v;
      within = omega (arith, many, w);
      starts = d;
      ends = omega (arith, many);
    }

body_least : (maximum n : ℕ) (t rest bytes more : List ℕ) → IsVarint t n → bytes ≡ t ++ rest → Completes maximum bytes more → n - length rest ≤ length more
body_least maximum n t rest bytes more v split (body, behind, (h, w)) =
    let mine : TakesVarint (bytes ++ more) n (rest ++ more) = (t, v, ap (λ z. z ++ more) split ∙ append_assoc t rest more) in
    let s = one_varint (bytes ++ more) n (length body) (rest ++ more) (body ++ behind) mine h in
    omega (arith, s.0, ap length s.1, length-append rest more, length-append body behind)

body_completes : (maximum n : ℕ) (t rest bytes : List ℕ) → IsVarint t n → bytes ≡ t ++ rest → n ≤ maximum → length rest < n → Completes maximum bytes (replicate (n - length rest) 0)
body_completes maximum n t rest bytes v split w l =
    let zeros = replicate (n - length rest) 0 in
    let many : length (rest ++ zeros) ≡ n = omega (arith, length-append rest zeros, length-replicate {A = ℕ} (n - length rest) 0) in
    let is : bytes ++ zeros ≡ t ++ ((rest ++ zeros) ++ []) = ap (λ z. z ++ zeros) split ∙ append_assoc t rest zeros ∙ ap (λ z. t ++ z) (sym (append-nil (rest ++ zeros))) in
    (rest ++ zeros, [], ((t, subst (λ k. IsVarint t k) (sym many) v, is), omega (arith, many)))

pub needs_body : (maximum n digits : ℕ) (bytes : List ℕ) → HasLength maximum bytes n digits → length bytes - digits < n → NeedsMore maximum bytes (n - (length bytes - digits))
needs_body maximum n digits bytes (t, rest, v, split, d, w) l =
    let there : length bytes - digits ≡ length rest = omega (arith, ap length split, length-append t rest, d) in
    let less : length rest < n = omega arith in
    rw there (record {
      some = omega arith;
      least = λ more h. body_least maximum n t rest bytes more v split h;
      more = replicate (n - length rest) 0;
      bytes_all = zeros_are_bytes (n - length rest);
      many = length-replicate (n - length rest) 0;
      completes = body_completes maximum n t rest bytes v split w less;
    })

-- ---- a beginning of one is there

begun_least : (maximum : ℕ) (bytes more : List ℕ) → Continue bytes → Completes maximum bytes more → base128 bytes + 1 ≤ length more
begun_least maximum bytes more c (body, behind, ((t, v, is), w)) =
    let u = longer bytes more t (body ++ behind) (length body) c v is in
    omega (arith, u.2, u.3, ap length u.1, length-append u.0 (body ++ behind), length-append body behind)

begun_completes : (maximum : ℕ) (bytes : List ℕ) → Continue bytes → length bytes < 10 → base128 bytes ≤ maximum → Completes maximum bytes (0 ∷ replicate (base128 bytes) 0)
begun_completes maximum bytes c l w =
    let zeros = replicate (base128 bytes) 0 in
    let many : length zeros ≡ base128 bytes = length-replicate (base128 bytes) 0 in
    let is : bytes ++ 0 ∷ zeros ≡ (bytes ++ 0 ∷ []) ++ (zeros ++ []) = sym (append_assoc bytes (0 ∷ []) zeros) ∙ ap (λ z. (bytes ++ 0 ∷ []) ++ z) (sym (append-nil zeros)) in
    (zeros, [], ((bytes ++ 0 ∷ [], subst (λ k. IsVarint (bytes ++ 0 ∷ []) k) (sym many) (ended_spelling bytes c l), is), omega (arith, many)))

pub needs_digits : (maximum low : ℕ) (bytes : List ℕ) → BeginsLength maximum bytes low → NeedsMore maximum bytes (low + 1)
needs_digits maximum low bytes (c, l, is, w) =
    rw is (record {
      some = omega arith;
      least = λ more h. begun_least maximum bytes more c h;
      more = 0 ∷ replicate (base128 bytes) 0;
      bytes_all = zeros_are_bytes (suc (base128 bytes));
      many = omega (arith, length-replicate {A = ℕ} (base128 bytes) 0);
      completes = begun_completes maximum bytes c l (omega arith);
    })

-- ---- too long

too_long_never : (maximum : ℕ) (bytes more : List ℕ) → IsTooLong maximum bytes → Completes maximum bytes more → ⊥
too_long_never maximum bytes more s (body, behind, ((t, v, is), w)) =
    let whole : s.front ++ (s.rest ++ more) ≡ bytes ++ more = sym (append_assoc s.front s.rest more) ∙ ap (λ z. z ++ more) (sym s.split) in
    let a = s.above (s.rest ++ more) (length body) (body ++ behind) (t, v, whole ∙ is) in
    omega arith

pub refused_long : (maximum : ℕ) (bytes : List ℕ) → IsTooLong maximum bytes → IsNoFrame maximum bytes TooLong
refused_long maximum bytes s = record { never = λ more h. too_long_never maximum bytes more s h; why = s }

pub too_long_whole : (maximum n : ℕ) (bytes rest : List ℕ) → TakesVarint bytes n rest → maximum < n → IsTooLong maximum bytes
too_long_whole maximum n bytes rest (t, v, split) l = record {
  front = t;
  rest = rest;
  split = split;
  begins = ([], n, [], (t, v, refl));
  above = λ more m behind h. let s = one_varint (t ++ more) n m more behind (t, v, refl) h in omega (arith, s.0);
}

begun_above : (maximum : ℕ) (front more : List ℕ) (n : ℕ) (behind : List ℕ) → Continue front → maximum < base128 front → TakesVarint (front ++ more) n behind → maximum < n
begun_above maximum front more n behind c l (t, v, is) = omega (arith, (longer front more t behind n c v is).3)

pub too_long_begun : (maximum : ℕ) (front rest : List ℕ) → Continue front → length front < 10 → maximum < base128 front → IsTooLong maximum (front ++ rest)
too_long_begun maximum front rest c k l = record {
  front = front;
  rest = rest;
  split = refl;
  begins = (0 ∷ [], base128 front, [], (front ++ 0 ∷ [], ended_spelling front c k, sym (append-nil (front ++ 0 ∷ []))));
  above = λ more n behind h. begun_above maximum front more n behind c l h;
}

-- ---- no length

-- bytes that begin with ten which are no varint have none at the front
no_length : (nine : List ℕ) (b : ℕ) (rest : List ℕ) (bytes : List ℕ) (n : ℕ) (behind : List ℕ) → Continue nine → length nine ≡ 9 → 2 ≤ b → bytes ≡ nine ++ b ∷ rest → TakesVarint bytes n behind → ⊥
no_length nine b rest bytes n behind c l h e t = ok_no_err (sym (taken_varint bytes n behind t) ∙ varint_faulty bytes VarintTooLong (nine, b, rest, c, l, h, e))

not_too_long : (maximum : ℕ) (nine : List ℕ) (b : ℕ) (rest bytes : List ℕ) → Continue nine → length nine ≡ 9 → 2 ≤ b → bytes ≡ nine ++ b ∷ rest → base128 nine ≤ maximum → IsTooLong maximum bytes → ⊥
not_too_long maximum nine b rest bytes c l h e w s = elim (cases_lt (length s.front) 10) [
  | inl few ↦ (
      let x = shorter_front s.front s.rest nine (b ∷ rest) (sym s.split ∙ e) (omega arith) in
      let k : Continue s.front = Continue-front s.front x.0 (subst Continue x.1 c) in
      let low = (longer s.front (x.0 ++ 0 ∷ []) (nine ++ 0 ∷ []) [] (base128 nine) k (ended_spelling nine c (omega arith))
      (sym (append_assoc s.front x.0 (0 ∷ [])) ∙ ap (λ z. z ++ 0 ∷ []) (sym x.1) ∙ sym (append-nil (nine ++ 0 ∷ [])))).3 in
      let a = s.above (0 ∷ []) (base128 s.front) [] (s.front ++ 0 ∷ [], ended_spelling s.front k few, sym (append-nil (s.front ++ 0 ∷ []))) in
      omega arith)
  | inr many ↦ (
      let whole : (nine ++ b ∷ []) ++ rest ≡ s.front ++ s.rest = append_assoc nine (b ∷ []) rest ∙ sym e ∙ s.split in
      let x = shorter_front (nine ++ b ∷ []) rest s.front s.rest whole (omega (arith, length-append nine (b ∷ []))) in
      let (more, n, behind, t) = s.begins in
      let is : s.front ++ more ≡ nine ++ b ∷ (x.0 ++ more) = ap (λ z. z ++ more) (x.1 ∙ append_assoc nine (b ∷ []) x.0) ∙ append_assoc nine (b ∷ x.0) more in
      no_length nine b (x.0 ++ more) (s.front ++ more) n behind c l h is t)
]

malformed_never : (maximum : ℕ) (nine : List ℕ) (b : ℕ) (rest bytes more : List ℕ) → Continue nine → length nine ≡ 9 → 2 ≤ b → bytes ≡ nine ++ b ∷ rest → Completes maximum bytes more → ⊥
malformed_never maximum nine b rest bytes more c l h e (body, behind, (t, w)) =
    no_length nine b (rest ++ more) (bytes ++ more) (length body) (body ++ behind) c l h (ap (λ z. z ++ more) e ∙ append_assoc nine (b ∷ rest) more) t

pub refused_malformed : (maximum : ℕ) (bytes : List ℕ) → VarintFault bytes VarintTooLong → base128 (take 9 bytes) ≤ maximum → IsNoFrame maximum bytes MalformedLength
refused_malformed maximum bytes (nine, b, rest, c, l, h, e) w =
    let front : take 9 bytes ≡ nine = ap (take 9) e ∙ take_at nine (b ∷ rest) 9 l in
    let low : base128 nine ≤ maximum = subst (λ z. base128 z ≤ maximum) front w in
    record {
      never = λ more t. malformed_never maximum nine b rest bytes more c l h e t;
      why = ((nine, b, rest, c, l, h, e), λ s. not_too_long maximum nine b rest bytes c l h e low s);
    }

-- ---- bytes that begin with no varint

-- the first nine, or all where they are fewer
pub low_nine : (low k : ℕ) (bytes : List ℕ) → low ≡ base128 (take k bytes) → k ≡ min (length bytes) 9 → low ≡ base128 (take 9 bytes)
low_nine low k bytes is m = elim (cases_lt (length bytes) 9) [
  | inl few ↦ is ∙ ap base128 (take_all k bytes (omega arith) ∙ sym (take_all 9 bytes (omega arith)))
  | inr many ↦ (let nine : k ≡ 9 = omega arith in is ∙ ap (λ n. base128 (take n bytes)) nine)
]

pub no_varint : (bytes : List ℕ) (e : DecodeError) → varint_at bytes ≡ Err e → VarintFault bytes e
no_varint bytes e h = agree_err (varint_at bytes) e (varint_sound bytes) h

nine_continue : (bytes : List ℕ) (e : DecodeError) → VarintFault bytes e → Continue (take 9 bytes)
nine_continue bytes UnexpectedEof f = Continue-front (take 9 bytes) (drop 9 bytes) (subst Continue (sym (take-append-drop 9 bytes)) f.0)
nine_continue bytes VarintTooLong (nine, b, rest, c, l, h, e) = subst Continue (sym (ap (take 9) e ∙ take_at nine (b ∷ rest) 9 l)) c
nine_continue bytes _ f = absurd f

pub refused_begun : (maximum : ℕ) (bytes : List ℕ) (e : DecodeError) → varint_at bytes ≡ Err e → maximum < base128 (take 9 bytes) → IsNoFrame maximum bytes TooLong
refused_begun maximum bytes e h l =
    let long = too_long_begun maximum (take 9 bytes) (drop 9 bytes) (nine_continue bytes e (no_varint bytes e h)) (omega (arith, length-take 9 bytes)) l in
    refused_long maximum bytes (subst (λ z. IsTooLong maximum z) (take-append-drop 9 bytes) long)

few_continue : (bytes : List ℕ) (e : DecodeError) → VarintFault bytes e → length bytes < 10 → Continue bytes
few_continue bytes UnexpectedEof f l = f.0
few_continue bytes VarintTooLong (nine, b, rest, c, k, h, e) l = absurd (omega (arith, ap length e, length-append nine (b ∷ rest)))
few_continue bytes _ f l = absurd f

pub begins_length : (maximum low : ℕ) (bytes : List ℕ) (e : DecodeError) → varint_at bytes ≡ Err e → length bytes < 10 → low ≡ base128 (take 9 bytes) → low ≤ maximum → BeginsLength maximum bytes low
begins_length maximum low bytes e h l is w =
    (few_continue bytes e (no_varint bytes e h) l, l, is ∙ ap base128 (take_all 9 bytes (omega arith)), w)

ten_malformed : (bytes : List ℕ) (e : DecodeError) → VarintFault bytes e → 10 ≤ length bytes → VarintFault bytes VarintTooLong
ten_malformed bytes UnexpectedEof f l = absurd (omega (arith, f.1))
ten_malformed bytes VarintTooLong f l = f
ten_malformed bytes _ f l = absurd f

pub refused_ten : (maximum : ℕ) (bytes : List ℕ) (e : DecodeError) → varint_at bytes ≡ Err e → 10 ≤ length bytes → base128 (take 9 bytes) ≤ maximum → IsNoFrame maximum bytes MalformedLength
refused_ten maximum bytes e h l w = refused_malformed maximum bytes (ten_malformed bytes e (no_varint bytes e h) l) w
