-- What bytes make of a value that is told by another.
use Rattle.std.proofs.Common.{◌∙◌, ap}
use Rattle.std.specs.Option.{option_map}
use Rattle.std.specs.Prelude.{◌≡◌, ℕ, zero, suc, List, [], ◌∷◌, length, Option, Some, None, Result, Ok, Err, refl}
use Rattle.buffa_bytes.specs.Readings.{skip_at, tag_at}
use Rattle.buffa_bytes.specs.Scan.{parsed, scan, scan_within, step_then, parse_all, parse_step}
use Rattle.buffa_bytes.specs.declared.error.DecodeError.{DecodeError}
use Rattle.buffa_bytes.specs.declared.error.DecodeError.TheVariants.{UnexpectedEof}
use Rattle.buffa_bytes.specs.declared.wire_type.WireType.{WireType}
use Rattle.buffa_wire.specs.ByField.{next_at, value_of}
use Rattle.buffa_wire.specs.Takes.{Taker, answer, framed, front_of, merged_of}

-- ---- a value that is told by another: what a field makes of it, by what it makes of that other
module _ {X Y : Type 0} (to : X → Y) (f : Taker X) (g : Taker Y) (d : ℕ) (same : (x : X) (n : ℕ) (w : WireType) (p : List ℕ) → g d (to x) n w p ≡ option_map to (f d x n w p)) where
  abbrev made : Result X DecodeError → Result Y DecodeError
  made (Ok x) = Ok (to x)
  made (Err e) = Err e

  abbrev made_front : Result (X × List ℕ) DecodeError → Result (Y × List ℕ) DecodeError
  made_front (Ok p) = Ok (to p.0, p.1)
  made_front (Err e) = Err e

  answered : (rest : List ℕ) (o : Option X) → answer rest (option_map to o) ≡ made_front (answer rest o)
  answered rest None = refl
  answered rest (Some x) = refl

  one_made : (x : X) (n : ℕ) (w : WireType) (bs : List ℕ) → framed g d (to x) n w bs ≡ made_front (framed f d x n w bs)
  one_made x n w bs = at (skip_at d n w bs) refl
    where
      at : (r : Result (List ℕ) DecodeError) → skip_at d n w bs ≡ r → framed g d (to x) n w bs ≡ made_front (framed f d x n w bs)
      at (Err e) is = rw is refl
      at (Ok rest) is = rw is (ap (λ (o : Option Y). answer rest o) (same x n w (front_of bs rest)) ∙ answered rest (f d x n w (front_of bs rest)))

  next_made : (x : X) (bs : List ℕ) → next_at (framed g d) (to x) bs ≡ made_front (next_at (framed f d) x bs)
  next_made x bs = at (tag_at bs) refl
    where
      at : (r : Result (ℕ × WireType × List ℕ) DecodeError) → tag_at bs ≡ r → next_at (framed g d) (to x) bs ≡ made_front (next_at (framed f d) x bs)
      at (Err e) is = rw is refl
      at (Ok t) is = rw is (one_made x t.0 t.1 t.2)

  -- a step, and what is behind it
  step_made : (k : ℕ) → ((x : X) (bs : List ℕ) → scan_within (parse_step (next_at (framed g d))) (Err UnexpectedEof) k (to x) bs ≡ made (scan_within (parse_step (next_at (framed f d))) (Err UnexpectedEof) k x bs)) →
      (r : Result (X × List ℕ) DecodeError) → step_then (scan_within (parse_step (next_at (framed g d))) (Err UnexpectedEof) k) (parsed (made_front r))
      ≡ made (step_then (scan_within (parse_step (next_at (framed f d))) (Err UnexpectedEof) k) (parsed r))
  step_made k same (Ok p) = same p.0 p.1
  step_made k same (Err e) = refl

  within_made : (k : ℕ) (x : X) (bs : List ℕ) → scan_within (parse_step (next_at (framed g d))) (Err UnexpectedEof) k (to x) bs ≡ made (scan_within (parse_step (next_at (framed f d))) (Err UnexpectedEof) k x bs)
  unfolding scan_within
  within_made zero x bs = refl
  within_made (suc k) x [] = refl
  within_made (suc k) x (b ∷ bs) =
      ap (λ r. step_then (scan_within (parse_step (next_at (framed g d))) (Err UnexpectedEof) k) (parsed r)) (next_made x (b ∷ bs))
      ∙ step_made k (within_made k) (next_at (framed f d) x (b ∷ bs))

  valued : (r : Result X DecodeError) → value_of (made r) ≡ option_map to (value_of r)
  valued (Ok x) = refl
  valued (Err e) = refl

  -- all bytes make of the one what they make of the other
  pub merged_by_semantics : (x : X) (bs : List ℕ) → merged_of g d (to x) bs ≡ option_map to (merged_of f d x bs)
  unfolding merged_of parse_all scan
  merged_by_semantics x bs = ap value_of (within_made (suc (length bs)) x bs) ∙ valued _
