-- What is proved of a value that is told by another.
use Rattle.std.proofs.Common.{◌∙◌, ap, subst}
use Rattle.std.specs.List.{AllByRecursion}
use Rattle.std.specs.Option.{option_map}
use Rattle.std.specs.Prelude.{◌≡◌, ℕ, zero, suc, Bool, List, [], ◌∷◌, length, Option, Some, None, Result, Ok, Err, refl}
use Rattle.buffa_bytes.specs.Readings.{skip_at, tag_at}
use Rattle.buffa_bytes.specs.Scan.{parsed, scan, scan_within, step_then, parse_all, parse_step}
use Rattle.buffa_bytes.specs.declared.error.DecodeError.{DecodeError}
use Rattle.buffa_bytes.specs.declared.error.DecodeError.TheVariants.{UnexpectedEof}
use Rattle.buffa_bytes.specs.declared.wire_type.WireType.{WireType}
use Rattle.buffa_wire.specs.BudgetLeft.{BudgetLeft}
use Rattle.buffa_wire.specs.ByField.{next_at, value_of}
use Rattle.buffa_wire.specs.Records.{FieldData}
use Rattle.buffa_wire.specs.Takes.{IsTaken, Leads, Charge, Piece, ReadsBack, Taker, answer, framed, front_of, merged_of}
use Rattle.buffa_fields.specs.Levels.{IsTakenWritten}
use Rattle.buffa_fields.specs.facts.FieldAndOthersFacts.{part_taken}
use Rattle.buffa_recursive.specs.TakenByAnother.{taken_through}

-- ---- a value that is made of parts, and is taken apart into them
module _ {X Y : Type 0} (to : X → Y) (from : Y → X) where
  module _ (back : (x : X) → from (to x) ≡ x) (takes : Taker X) (d : ℕ) where
    abbrev made : Result X DecodeError → Result Y DecodeError
    made (Ok x) = Ok (to x)
    made (Err e) = Err e

    abbrev made_front : Result (X × List ℕ) DecodeError → Result (Y × List ℕ) DecodeError
    made_front (Ok p) = Ok (to p.0, p.1)
    made_front (Err e) = Err e

    answered : (rest : List ℕ) (o : Option X) → answer rest (option_map to o) ≡ made_front (answer rest o)
    answered rest None = refl
    answered rest (Some x) = refl

    one_made : (x : X) (n : ℕ) (w : WireType) (bs : List ℕ) → framed (taken_through to from takes) d (to x) n w bs ≡ made_front (framed takes d x n w bs)
    one_made x n w bs = at (skip_at d n w bs) refl
      where
        at : (r : Result (List ℕ) DecodeError) → skip_at d n w bs ≡ r → framed (taken_through to from takes) d (to x) n w bs ≡ made_front (framed takes d x n w bs)
        at (Err e) is = rw is refl
        at (Ok rest) is = rw is (ap (λ z. answer rest (option_map to (takes d z n w (front_of bs rest)))) (back x) ∙ answered rest (takes d x n w (front_of bs rest)))

    next_made : (x : X) (bs : List ℕ) → next_at (framed (taken_through to from takes) d) (to x) bs ≡ made_front (next_at (framed takes d) x bs)
    next_made x bs = at (tag_at bs) refl
      where
        at : (r : Result (ℕ × WireType × List ℕ) DecodeError) → tag_at bs ≡ r → next_at (framed (taken_through to from takes) d) (to x) bs ≡ made_front (next_at (framed takes d) x bs)
        at (Err e) is = rw is refl
        at (Ok t) is = rw is (one_made x t.0 t.1 t.2)

    -- a step, and what is behind it
    step_made : (k : ℕ) → ((x : X) (bs : List ℕ) → scan_within (parse_step (next_at (framed (taken_through to from takes) d))) (Err UnexpectedEof) k (to x) bs ≡ made (scan_within (parse_step (next_at (framed takes d))) (Err UnexpectedEof) k x bs)) →
        (r : Result (X × List ℕ) DecodeError) → step_then (scan_within (parse_step (next_at (framed (taken_through to from takes) d))) (Err UnexpectedEof) k) (parsed (made_front r))
        ≡ made (step_then (scan_within (parse_step (next_at (framed takes d))) (Err UnexpectedEof) k) (parsed r))
    step_made k same (Ok p) = same p.0 p.1
    step_made k same (Err e) = refl

    within_made : (k : ℕ) (x : X) (bs : List ℕ) → scan_within (parse_step (next_at (framed (taken_through to from takes) d))) (Err UnexpectedEof) k (to x) bs ≡ made (scan_within (parse_step (next_at (framed takes d))) (Err UnexpectedEof) k x bs)
    unfolding scan_within
    within_made zero x bs = refl
    within_made (suc k) x [] = refl
    within_made (suc k) x (b ∷ bs) =
        ap (λ r. step_then (scan_within (parse_step (next_at (framed (taken_through to from takes) d))) (Err UnexpectedEof) k) (parsed r)) (next_made x (b ∷ bs))
        ∙ step_made k (within_made k) (next_at (framed takes d) x (b ∷ bs))

    valued : (r : Result X DecodeError) → value_of (made r) ≡ option_map to (value_of r)
    valued (Ok x) = refl
    valued (Err e) = refl

    -- all bytes make of the whole what they make of the parts
    pub merged_through : (x : X) (bs : List ℕ) → merged_of (taken_through to from takes) d (to x) bs ≡ option_map to (merged_of takes d x bs)
    unfolding merged_of parse_all scan
    merged_through x bs = ap value_of (within_made (suc (length bs)) x bs) ∙ valued _

    -- fields that lead from one to another lead from the one told so to the other
    leads_through : (P : ℕ → Bool) (s t : X) (fs : List Piece) → Leads takes P d s fs t → Leads (taken_through to from takes) P d (to s) fs (to t)
    leads_through P s t [] h = ap to h
    leads_through P s t (x ∷ fs) (is, tag, payload, u, h, l) =
        (is, tag, payload, to u, ap (λ z. option_map to (takes d z x.number x.wire x.payload)) (back s) ∙ ap (option_map to) h, leads_through P u t fs l)

    pub back_through : (P : ℕ → Bool) (s t : X) (encoding : List ℕ) → ReadsBack takes P d s encoding t → ReadsBack (taken_through to from takes) P d (to s) encoding (to t)
    back_through P s t encoding h = record { pieces = h.pieces; spelled = h.spelled; leads = leads_through P s t h.pieces h.leads }

  -- what is taken so is taken
  some_of : (o : Option X) (u : Y) → option_map to o ≡ Some u → (x : X) × (o ≡ Some x)
  some_of None u h = cc
  some_of (Some x) u h = (x, refl)

  pub written_through : (takes : Taker X) (d : ℕ) (ys : List (ℕ × FieldData)) → AllByRecursion (IsTakenWritten (taken_through to from takes) d) ys → AllByRecursion (IsTakenWritten takes d) ys
  written_through takes d [] h = tt
  written_through takes d (y ∷ ys) ((number, fits, low, v, u, h), more) =
      let t = some_of _ u h in
      ((number, fits, low, from v, t.0, t.1), written_through takes d ys more)

  -- a field that the one takes is taken by the other, where what it becomes is had again
  pub is_taken_through : (takes : Taker X) (charge : Charge) (d n : ℕ) (w : WireType) (old new : Y) (bs rest : List ℕ) (before after : BudgetLeft) (r : Result (Unit {0}) DecodeError) → (to (from new) ≡ new) →
      IsTaken takes charge d (from old) n w bs before r (from new) after rest → IsTaken (taken_through to from takes) charge d old n w bs before r new after rest
  is_taken_through takes charge d n w old new bs rest before after r again h =
      subst (λ z. IsTaken (taken_through to from takes) charge d old n w bs before r z after rest) again
      (part_taken takes charge (taken_through to from takes) charge d n w (from old) old to (λ p. refl) (λ b. refl) bs rest before after r (from new) h)
