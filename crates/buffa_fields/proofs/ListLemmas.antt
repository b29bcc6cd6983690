-- What is proved of elements that are read, taken or refused.
use Rattle.std.proofs.Common.{◌≡◌, ◌≢◌, inl, inr, ℕ, ◌<◌, ◌≤◌, Bool, true, false, List, [], ◌∷◌, ◌++◌, length, Result, Ok, Err, IfErr, IsOk, OnErr, refl, sym, ap, subst, ◌∙◌, arith, append_assoc, append-nil, length-append, if◌then◌else◌}
use Rattle.buffa_bytes.proofs.PayloadValueLemmas.{payload_value_complete, has_byte}
use Rattle.buffa_bytes.proofs.DelimitedLemmas.{delimited_sound}
use Rattle.buffa_bytes.proofs.FieldLemmas.{same_refl, same_false}
use Rattle.buffa_bytes.proofs.StepLemmas.{agree_err, agree_ok}
use Rattle.buffa_bytes.specs.PayloadValue.{PayloadValue, payload_value_at}
use Rattle.buffa_bytes.specs.declared.error.DecodeError.{DecodeError}
use Rattle.buffa_bytes.specs.declared.error.DecodeError.TheVariants.{OutOfMemory, UnexpectedEof}
use Rattle.buffa_bytes.specs.declared.wire_type.WireType.{WireType}
use Rattle.buffa_bytes.specs.declared.wire_type.WireType.TheVariants.{LengthDelimited}
use Rattle.buffa_wire.proofs.MessageLemmas.{NoLimit, length_no_limit, as_no_limit}
use Rattle.buffa_wire.proofs.SpentLemmas.{PaysAtMost_nothing}
use Rattle.buffa_bytes.proofs.SequenceLemmas.{along_err, err_same, parse_keeps}
use Rattle.buffa_wire.specs.BudgetLeft.{BudgetLeft, nothing, IsLimit}
use Rattle.buffa_bytes.specs.Readings.{check_wire, delimited_at, same_wire, ◌>>=◌, FullOnlyIf, GivesUnlessFull}
use Rattle.buffa_map.proofs.EntryLemmas.{value_complete}
use Rattle.buffa_map.specs.Codec.{Reading, value_at}
use Rattle.buffa_fields.specs.Lists.{TakesPacked, check_list_wire, element_at, elements_in, elements_taken}
use Rattle.buffa_wire.specs.Takes.{IsTaken}
use Rattle.buffa_fields.specs.facts.ValueFacts.{open_level}
use Rattle.buffa_fields.specs.Values.{free, value_taken}
use Rattle.buffa_fields.specs.Refusals.{ElementsRead, RefusesElements, RefusesPacked, StopsAtElement}
use Rattle.buffa_fields.specs.facts.ListFacts.{element_falls, element_sound, elements_end, elements_next}
use Rattle.buffa_fields.proofs.ValueLemmas.{fault_no_limit, value_err, value_ok, value_reported, wire_refused, wire_reported}
use Rattle.buffa_fields.proofs.InsideLemmas.{alone_is, delimited_front, no_payload}
use Rattle.std.specs.Option.{option_map}
use Rattle.buffa_fields.specs.facts.FieldAndOthersFacts.{part_taken}

module _ {V : Type 0} (codec : Reading V) (plain : codec.nested ≡ false)
    (no_limit : (d : ℕ) (old : V) (c : PayloadValue) (x : DecodeError) → codec.reads d old c ≡ Err x → IsLimit x → ⊥) (d : ℕ) where
  -- ---- one element
  -- an element that was read has a whole payload
  pub element_there : (vs : List V) (bs : List ℕ) (new : List V) (rest : List ℕ) → element_at codec d vs bs ≡ Ok (new, rest) → IsOk (payload_value_at codec.wire bs)
  element_there vs bs new rest h =
      let u = agree_ok (element_at codec d vs bs) (new, rest) (element_sound codec d vs bs) h in subst (λ r. IsOk r) (sym (ap (payload_value_at codec.wire) u.6 ∙ payload_value_complete codec.wire u.1 u.2 rest u.3)) refl

  value_err_of : (vs : List V) (bs : List ℕ) (e : DecodeError) (r : Result ((V × Bool) × List ℕ) DecodeError) → value_at codec d codec.blank bs ≡ r →
      (r >>= (λ x. let y : List V × List ℕ = (vs ++ x.0.0 ∷ [], x.1) in Ok y)) ≡ Err e → value_at codec d codec.blank bs ≡ Err e
  value_err_of vs bs e (Ok x) is h = cc
  value_err_of vs bs e (Err f) is h = is ∙ ap (λ z. Err z) (err_same h)

  element_no_limit : (vs : List V) (bs : List ℕ) (e : DecodeError) → element_at codec d vs bs ≡ Err e → NoLimit e
  element_no_limit vs bs e h =
      fault_no_limit codec plain no_limit d codec.blank 0 codec.wire bs nothing e (agree_err (element_at codec d vs bs) e (element_sound codec d vs bs) h)

  -- ---- elements one after the other
  pub elements_done : (vs : List V) (bs : List ℕ) → length bs ≤ 0 → elements_in codec d vs bs ≡ Ok vs
  elements_done vs [] h = elements_end codec d vs
  elements_done vs (b ∷ bs) h = absurd (omega (arith, h))

  pub elements_err : (vs : List V) (bs : List ℕ) (e : DecodeError) → 0 < length bs → element_at codec d vs bs ≡ Err e → elements_in codec d vs bs ≡ Err e
  unfolding elements_in
  elements_err vs bs e some h = along_err (element_at codec d) (element_falls codec d) vs bs e some h

  -- ---- what was read so far
  pub none_read : (vs : List V) (bs : List ℕ) → ElementsRead codec d vs bs bs vs
  none_read vs bs = record { front = []; split = refl; reads = λ y. refl }

  pub one_read : (old vs us : List V) (b bs x : List ℕ) → ElementsRead codec d old b bs vs → element_at codec d vs bs ≡ Ok (us, x) → ElementsRead codec d old b x us
  one_read old vs us b bs x h is =
      let u = agree_ok (element_at codec d vs bs) (us, x) (element_sound codec d vs bs) is in
      let again : (y : List ℕ) → element_at codec d vs (u.1 ++ y) ≡ Ok (us, y) =
      λ y. rw (value_complete codec d codec.blank u.1 y u.2 u.0 (open_level codec d plain) u.3 u.4) (ap (λ (z : List V). let r : Result (List V × List ℕ) DecodeError = Ok (z, y) in r) (sym u.5)) in
      record {
        front = h.front ++ u.1;
        split = h.split ∙ ap (λ (z : List ℕ). h.front ++ z) u.6 ∙ sym (append_assoc h.front u.1 x);
        reads = λ y. ap (elements_in codec d old) (append_assoc h.front u.1 y) ∙ h.reads (u.1 ++ y)
            ∙ elements_next codec d vs us (u.1 ++ y) y (omega (arith, has_byte codec.wire u.1 u.2 u.3, length-append u.1 y)) (again y);
      }

  pub read_means : (old vs : List V) (b bs : List ℕ) → ElementsRead codec d old b bs vs → elements_in codec d old b ≡ elements_in codec d vs bs
  read_means old vs b bs h = ap (elements_in codec d old) h.split ∙ h.reads bs

  pub read_stops : (old vs new : List V) (b bs : List ℕ) (e : DecodeError) → ElementsRead codec d old b bs vs → new ≡ vs → (e ≢ OutOfMemory → element_at codec d vs bs ≡ Err e) → StopsAtElement codec d old b e new
  read_stops old vs new b bs e h stays bad = (
    h.front,
    bs,
    h.split,
    ap (elements_in codec d old) (sym (append-nil h.front)) ∙ h.reads [] ∙ elements_end codec d vs ∙ ap (λ z. Ok z) (sym stays),
    λ ne. ap (λ z. element_at codec d z bs) stays ∙ bad ne,
  )

  elements_no_limit : (vs : List V) (bs : List ℕ) (e : DecodeError) → elements_in codec d vs bs ≡ Err e → NoLimit e
  unfolding elements_in
  elements_no_limit vs bs e h = parse_keeps (element_at codec d) (λ _ _ r. (f : DecodeError) → r ≡ Err f → NoLimit f)
      (λ vs f is. cc) (λ vs b bs x is f k. as_no_limit f x (sym (err_same k)) (element_no_limit vs (b ∷ bs) x is)) (λ vs b bs x r is again f k. again f k)
      (λ vs bs f k. as_no_limit f UnexpectedEof (sym (err_same k)) (λ l. l)) vs bs e h

  -- ---- a field is taken
  module _ (vs : List V) (n : ℕ) (w : WireType) (bs : List ℕ) (before : BudgetLeft) where
    -- of the elements' own wire type, as a value is
    as_value : w ≡ codec.wire → (p : List ℕ) → elements_taken codec d vs n w p ≡ option_map (λ x. vs ++ x ∷ []) (value_taken codec d codec.blank n w p)
    unfolding elements_taken
    as_value wire p = rw (ap (same_wire codec.wire) wire ∙ same_refl codec.wire) refl

    pub element_taken : (r : Result (Unit {0}) DecodeError) (new : List V) (rest : List ℕ) → w ≡ codec.wire → GivesUnlessFull (λ _. let y : List V × List ℕ = (new, rest) in y) r (element_at codec d vs bs) → FullOnlyIf r (IsOk (payload_value_at codec.wire bs)) →
        IsTaken (elements_taken codec) free d vs n w bs before r new before rest
    element_taken (Ok _) new rest wire h full =
        let u = agree_ok (element_at codec d vs bs) (new, rest) (element_sound codec d vs bs) h in
        let is : value_at codec d codec.blank bs ≡ Ok (u.0, rest) = ap (value_at codec d codec.blank) u.6 ∙ value_complete codec d codec.blank u.1 rest u.2 u.0 (open_level codec d plain) u.3 u.4 in
        subst (λ z. IsTaken (elements_taken codec) free d vs n w bs before (let r : Result (Unit {0}) DecodeError = Ok tt in r) z before rest) (sym u.5)
        (part_taken (value_taken codec) free (elements_taken codec) free d n w codec.blank vs (λ x. vs ++ x ∷ []) (as_value wire) (λ bs. refl) bs rest before before (Ok tt) u.0.0 (value_ok codec plain no_limit d codec.blank n w bs before u.0.0 u.0.1 rest before wire refl is))
    element_taken (Err e) new rest wire h full =
        part_taken (value_taken codec) free (elements_taken codec) free d n w codec.blank vs (λ x. vs ++ x ∷ []) (as_value wire) (λ bs. refl) bs rest before before (Err e) codec.blank
        (value_err codec plain no_limit d codec.blank n w bs before e codec.blank rest before wire refl (λ ne. value_err_of vs bs e (value_at codec d codec.blank bs) refl (h ne)) full)

    -- of neither that nor a length and so many bytes
    pub neither_err : (e : DecodeError) → check_wire n codec.wire w ≡ Err e → w ≢ LengthDelimited →
        IsTaken (elements_taken codec) free d vs n w bs before (let r : Result (Unit {0}) DecodeError = Err e in r) vs before bs
    unfolding elements_taken
    neither_err e reported others =
        wire_refused (elements_taken codec) free d n w vs vs bs bs before before e codec.wire reported refl (λ other p. rw (same_false codec.wire w other, same_false LengthDelimited w others) refl)

    -- ---- packed elements
    module _ (other : w ≢ codec.wire) (wire : w ≡ LengthDelimited) where
      off : same_wire codec.wire w ≡ false
      off = same_false codec.wire w other

      pub packed_ok : (new : List V) (b rest : List ℕ) → delimited_at bs ≡ Ok (b, rest) → elements_in codec d vs b ≡ Ok new →
          IsTaken (elements_taken codec) free d vs n w bs before (let r : Result (Unit {0}) DecodeError = Ok tt in r) new before rest
      unfolding elements_taken
      packed_ok new b rest h all =
          let f = delimited_front d n w bs b rest wire h in
          let same : same_wire LengthDelimited w ≡ true = ap (same_wire LengthDelimited) wire in
          (f.0, f.1, f.2, rw (off, same, f.3, all) refl, (omega arith, omega arith))

      pub body_err : (e : DecodeError) (new : List V) (rest : List ℕ) → delimited_at bs ≡ Err e →
          IsTaken (elements_taken codec) free d vs n w bs before (let r : Result (Unit {0}) DecodeError = Err e in r) new before rest
      unfolding elements_taken
      body_err e new rest h = (
        PaysAtMost_nothing before before nothing refl,
        λ ne. inr ((λ p more payload split. absurd (no_payload d n w p more bs e h wire payload split)), length_no_limit bs e (agree_err (delimited_at bs) e (delimited_sound bs) h)),
        λ full end. let k = sym wire ∙ end in cc,
      )

      pub packed_err : (e : DecodeError) (new : List V) (b after rest : List ℕ) → delimited_at bs ≡ Ok (b, after) → (e ≢ OutOfMemory → elements_in codec d vs b ≡ Err e) →
          IsTaken (elements_taken codec) free d vs n w bs before (let r : Result (Unit {0}) DecodeError = Err e in r) new before rest
      unfolding elements_taken
      packed_err e new b after rest h bad = (
        PaysAtMost_nothing before before nothing refl,
        λ ne. inr (
          (λ p more payload split. rw (off, wire, alone_is d n w p more bs b after h wire payload split, bad ne) refl),
          elements_no_limit vs b e (bad ne),
        ),
        λ full end. let k = sym wire ∙ end in cc,
      )

    -- ---- what calls give
    pub packed_taken : (r : Result (Unit {0}) DecodeError) (new : List V) (rest : List ℕ) → w ≢ codec.wire → w ≡ LengthDelimited → TakesPacked codec d vs bs r new rest →
        IsTaken (elements_taken codec) free d vs n w bs before r new before rest
    packed_taken (Ok _) new rest other wire (b, h, all) = packed_ok other wire new b rest h all
    packed_taken (Err e) new rest other wire (inl h) = body_err other wire e new rest h
    packed_taken (Err e) new rest other wire (inr (b, after, h, bad)) = packed_err other wire e new b after rest h bad

    -- ---- what a refused field leaves
    pub element_refused : (r : Result (Unit {0}) DecodeError) (new : List V) (rest : List ℕ) (e : DecodeError) → r ≡ Err e → w ≡ codec.wire → check_wire n codec.wire w ≡ Ok tt → OnErr r (new ≡ vs) →
        GivesUnlessFull (λ _. let y : List V × List ℕ = (new, rest) in y) r (element_at codec d vs bs) → RefusesElements codec d vs n w bs e new
    element_refused (Ok _) new rest e is wire held stays h = cc
    element_refused (Err f) new rest e is wire held stays h =
        let same : f ≡ e = err_same is in (
          λ _. (
            sym stays,
            λ ne. value_reported codec d codec.blank n w bs e held (value_err_of vs bs e (value_at codec d codec.blank bs) refl (h (λ full. ne (sym same ∙ full)) ∙ ap (λ z. Err z) same)),
          ),
          λ other. absurd (other wire),
        )

    pub packed_refused : (r : Result (Unit {0}) DecodeError) (new : List V) (e : DecodeError) → r ≡ Err e → w ≢ codec.wire → w ≡ LengthDelimited → IfErr r (λ f. RefusesPacked codec d vs bs f new) →
        RefusesElements codec d vs n w bs e new
    packed_refused (Ok _) new e is other wire h = cc
    packed_refused (Err f) new e is other wire h = (
      λ neither. elim neither [
        | inl same ↦ absurd (other same)
        | inr off ↦ absurd (off wire)
      ],
      λ _ _. subst (λ z. RefusesPacked codec d vs bs z new) (err_same is) h,
    )

    pub neither_refused : (e : DecodeError) → w ≢ LengthDelimited → check_wire n codec.wire w ≡ Err e → RefusesElements codec d vs n w bs e vs
    neither_refused e others reported = ((λ _. (refl, λ ne. wire_reported codec d codec.blank n w bs e reported)), λ other wire. absurd (others wire))

-- an element of packed ones was refused
pub packed_stops : {V : Type 0} (codec : Reading V) (d : ℕ) (old new : List V) (bs b after : List ℕ) (r : Result (Unit {0}) DecodeError) → delimited_at bs ≡ Ok (b, after) → IfErr r (λ e. StopsAtElement codec d old b e new) →
    IfErr r (λ e. RefusesPacked codec d old bs e new)
packed_stops codec d old new bs b after (Ok _) is h = tt
packed_stops codec d old new bs b after (Err e) is h = inr (b, after, is, h)

-- ---- the wire type of a field
module _ (n : ℕ) (wire w : WireType) (e : DecodeError) (reported : check_list_wire n wire w ≡ Err e) where
  -- a refused wire type isn't the elements' own
  pub own_wire : check_wire n wire w ≡ Ok tt → ⊥
  own_wire is = at (same_wire LengthDelimited w) reported
    where
      at : (b : Bool) → (if b then (let r : Result (Unit {0}) DecodeError = Ok tt in r) else check_wire n wire w) ≡ Err e → ⊥
      at true h = cc
      at false h = let two = sym is ∙ h in cc

  -- nor that of packed ones
  pub packed_wire : w ≡ LengthDelimited → ⊥
  packed_wire is = let two = rw is at reported in cc

  -- another is, as of one element
  pub other_wire : w ≢ LengthDelimited → check_wire n wire w ≡ Err e
  other_wire other = rw (same_false LengthDelimited w other) at reported

pub element_from_err : {V : Type 0} (codec : Reading V) (d : ℕ) (vs : List V) (bs : List ℕ) (blank : V) → codec.blank ≡ blank → (e : DecodeError) →
    value_at codec d blank bs ≡ Err e → element_at codec d vs bs ≡ Err e
element_from_err {V} codec d vs bs blank same e h =
    ap (λ z. value_at codec d z bs >>= (λ x. let y : List V × List ℕ = (vs ++ x.0.0 ∷ [], x.1) in Ok y)) same ∙ rw h refl
