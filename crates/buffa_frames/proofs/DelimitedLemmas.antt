-- A message behind its length: what is written of it, and what is read.
use Rattle.std.proofs.Common.{◌≡◌, ◌≢◌, inr, ℕ, ◌<◌, ◌≤◌, ◌^◌, List, [], ◌++◌, length, take, drop, Option, Some, Result, Ok, Err, refl, sym, ap, subst, ◌∙◌, arith, append-nil, length-append}
use Rattle.std.specs.Prelude.{IfErr, IfOk, OnErr, OnOk}
use Rattle.std.proofs.lemmas.Bool.{lt-ltb, le-ltb}
use Rattle.std.proofs.lemmas.List.{take_at}
use Rattle.buffa_bytes.specs.declared.error.DecodeError.{DecodeError}
use Rattle.buffa_bytes.specs.declared.error.DecodeError.TheVariants as decode
use Rattle.buffa_bytes.specs.declared.error.EncodeError.{EncodeError}
use Rattle.buffa_bytes.specs.declared.error.EncodeError.TheVariants.{OutOfMemory}
use Rattle.buffa_bytes.specs.Readings.{FullOnlyIf, delimited_at, taken, varint_at}
use Rattle.buffa_bytes.specs.Unread.{past_no_delimited, past_no_varint}
use Rattle.buffa_bytes.specs.Varint.{VarintFault, varint_encoding}
use Rattle.buffa_bytes.specs.Values.{delimited_encoding}
use Rattle.buffa_bytes.specs.Written.{WritesFront}
use Rattle.buffa_bytes.proofs.DelimitedLemmas.{after_length, taken_faulty}
use Rattle.buffa_bytes.proofs.ShortestLemmas.{varint_encoding-some}
use Rattle.buffa_bytes.proofs.StepLemmas.{ok_no_err, ok_same}
use Rattle.buffa_bytes.proofs.SinkLemmas.{front_first, front_second}
use Rattle.buffa_wire.specs.BudgetLeft.{BudgetLeft, Lacks, defaults}
use Rattle.buffa_wire.specs.Cache.{Cache}
use Rattle.buffa_wire.specs.Message.{BeginsField, MergeFault}
use Rattle.buffa_wire.specs.Passes.{IsWritten, cap}
use Rattle.buffa_frames.specs.Delimited.{LengthDelimitedFault, MeansInside, UnwrittenFrame}
use Rattle.buffa_frames.proofs.FrontLemmas.{no_varint}

-- ---- what is written

full_front : (encoding old new : List ℕ) (e : EncodeError) → e ≡ OutOfMemory → WritesFront old (delimited_encoding encoding) new → UnwrittenFrame encoding old new e
full_front encoding old new e is w = subst (λ d. UnwrittenFrame encoding old new d) (sym is) w

-- memory ran out before a byte was written
pub unwritten_none : {T : Type 0} {r : Result T EncodeError} {e d : EncodeError} → r ≡ Err e → e ≡ d → (encoding old : List ℕ) → d ≡ OutOfMemory → IfErr r (λ k. UnwrittenFrame encoding old old k)
unwritten_none {e = e} {d = d} is same encoding old full =
    rw is (full_front encoding old old e (same ∙ full) ([], delimited_encoding encoding, refl, sym (append-nil old), omega (arith, length-append (varint_encoding (length encoding)) encoding, varint_encoding-some (length encoding))))

-- within the length
pub unwritten_length : {T : Type 0} {r : Result T EncodeError} {e d : EncodeError} → r ≡ Err e → e ≡ d → (encoding old new : List ℕ) (size m : ℕ) → size ≡ cap (length encoding) → size ≤ 2147483647 → m ≡ size →
    (d ≡ OutOfMemory) × WritesFront old (varint_encoding m) new → IfErr r (λ k. UnwrittenFrame encoding old new k)
unwritten_length {e = e} is same encoding old new size m c l k w =
    let whole : m ≡ length encoding = omega arith in
    rw is (full_front encoding old new e (same ∙ w.0) (front_first old (varint_encoding (length encoding)) encoding new (subst (λ n. WritesFront old (varint_encoding n) new) whole w.1)))

-- within the message
pub unwritten_rest : {T : Type 0} (r : Result T EncodeError) (encoding slots old mid new : List ℕ) (before after : Cache) (size m : ℕ) → size ≡ cap (length encoding) → size ≤ 2147483647 → m ≡ size → mid ≡ old ++ varint_encoding m →
    IsWritten encoding slots before mid r after new → IfErr r (λ k. UnwrittenFrame encoding old new k)
unwritten_rest (Ok x) encoding slots old mid new before after size m c l k is h = tt
unwritten_rest (Err e) encoding slots old mid new before after size m c l k is (bs, grows, why) =
    let whole : m ≡ length encoding = omega arith in
    let small : length encoding < 2 ^ 31 = omega arith in
    let begins = why.1 small in
    full_front encoding old new e why.0 (front_second old (varint_encoding (length encoding)) encoding mid new (is ∙ ap (λ n. old ++ varint_encoding n) whole) (bs, begins.0, begins.1, grows, begins.2))

-- what stood before a beginning of a frame
pub before_front : (old encoding new : List ℕ) → WritesFront old encoding new → take (length old) new ≡ old
before_front old encoding new (front, rest, e, is, l) = ap (take (length old)) is ∙ take_at old front (length old) refl

-- ---- what is read

no_memory : (bs : List ℕ) (e : DecodeError) → VarintFault bs e → e ≡ decode.OutOfMemory → ⊥
no_memory bs decode.OutOfMemory f is = f
no_memory bs _ f is = cc

pub length_not_full : {T : Type 0} {r : Result T DecodeError} {e d : DecodeError} → r ≡ Err e → e ≡ d → (bs : List ℕ) (P : Type 0) → varint_at bs ≡ Err d → FullOnlyIf r P
length_not_full is same bs P h = rw (is, same) (λ full. absurd (no_memory bs _ (no_varint bs _ h) full))

pub length_left : {T : Type 0} {r : Result T DecodeError} {e d : DecodeError} → r ≡ Err e → (bs left : List ℕ) → varint_at bs ≡ Err d → left ≡ past_no_varint bs → OnErr r (left ≡ past_no_delimited bs)
unfolding past_no_delimited
length_left is bs left h l = rw (is, past_no_delimited, h) l

pub passed_fault : (n : ℕ) (bs mid : List ℕ) → varint_at bs ≡ Ok (n, mid) → length mid < n → delimited_at bs ≡ Err decode.UnexpectedEof
passed_fault n bs mid h l = after_length n bs mid h ∙ taken_faulty n mid l

pub passed_left : (n : ℕ) (bs mid : List ℕ) → varint_at bs ≡ Ok (n, mid) → length mid < n → mid ≡ past_no_delimited bs
unfolding past_no_delimited
passed_left n bs mid h l = rw (past_no_delimited, h, lt-ltb (length mid) n l) refl

pub inside_there : (n : ℕ) (bs mid body rest : List ℕ) → varint_at bs ≡ Ok (n, mid) → n ≤ length mid → body ≡ take n mid → rest ≡ drop n mid → delimited_at bs ≡ Ok (body, rest)
unfolding taken
inside_there n bs mid body rest h l b r = after_length n bs mid h ∙ rw (le-ltb (length mid) n l) (λ i. Ok (sym b i, sym r i))

pub inside_left : {T : Type 0} (r : Result T DecodeError) (n : ℕ) (bs mid rest : List ℕ) → varint_at bs ≡ Ok (n, mid) → n ≤ length mid → rest ≡ drop n mid → OnErr r (rest ≡ past_no_delimited bs)
unfolding past_no_delimited
inside_left (Ok x) n bs mid rest h l e = tt
inside_left (Err d) n bs mid rest h l e = rw (past_no_delimited, h, le-ltb (length mid) n l) e

pub means_inside : {M X : Type 0} (r : Result M DecodeError) (meaning : M → X) (meant : List ℕ → Option X) (cost : List ℕ → BudgetLeft) (bs body rest : List ℕ) → delimited_at bs ≡ Ok (body, rest) →
    IfOk r (λ m. meant body ≡ Some (meaning m)) → OnOk r (Lacks defaults (cost body) → ⊥) → IfOk r (λ m. MeansInside meant cost bs (meaning m) rest)
means_inside (Ok m) meaning meant cost bs body rest e a b = (body, e, a, b)
means_inside (Err d) meaning meant cost bs body rest e a b = tt

pub inside_fault : {M X : Type 0} (r : Result M DecodeError) (meant : List ℕ → Option X) (cost : List ℕ → BudgetLeft) (bs body rest : List ℕ) → delimited_at bs ≡ Ok (body, rest) →
    IfErr r (λ e. e ≢ decode.OutOfMemory → MergeFault (meant body) (cost body) defaults e) → IfErr r (λ e. e ≢ decode.OutOfMemory → LengthDelimitedFault meant cost bs e)
inside_fault (Ok m) meant cost bs body rest e h = tt
inside_fault (Err d) meant cost bs body rest e h = λ ne. inr (body, rest, e, h ne)

pub inside_full : {M : Type 0} (r : Result M DecodeError) (bs body rest : List ℕ) → delimited_at bs ≡ Ok (body, rest) → FullOnlyIf r (BeginsField body) →
    FullOnlyIf r ((b : List ℕ) × (s : List ℕ) × (delimited_at bs ≡ Ok (b, s)) × BeginsField b)
inside_full (Ok m) bs body rest e h = tt
inside_full (Err d) bs body rest e h = λ full. (body, rest, e, h full)

-- ---- why a message is refused

no_length : (bs : List ℕ) (d : DecodeError) → varint_at bs ≡ Err d → delimited_at bs ≡ Err d
no_length bs d h = rw h refl

pub which_none : {T : Type 0} {r : Result T DecodeError} {e d : DecodeError} → r ≡ Err e → (bs : List ℕ) (Why : List ℕ → DecodeError → Type 0) → varint_at bs ≡ Err d →
    IfErr r (λ k. (body rest : List ℕ) → delimited_at bs ≡ Ok (body, rest) → Why body k)
which_none {d = d} is bs Why h = rw is (λ body rest k. absurd (ok_no_err (sym k ∙ no_length bs d h)))

pub which_inside : {T : Type 0} (r : Result T DecodeError) (bs b s : List ℕ) (Why : List ℕ → DecodeError → Type 0) → delimited_at bs ≡ Ok (b, s) → IfErr r (Why b) →
    IfErr r (λ k. (body rest : List ℕ) → delimited_at bs ≡ Ok (body, rest) → Why body k)
which_inside (Ok x) bs b s Why h w = tt
which_inside (Err e) bs b s Why h w = λ body rest k. let same = ok_same (sym h ∙ k) in subst (λ z. Why z e) (ap (λ p. p.0) same) w
