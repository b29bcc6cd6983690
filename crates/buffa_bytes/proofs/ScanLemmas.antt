-- What every scan over bytes has: a step, and then the scan of what is behind it.
use Rattle.std.proofs.Common.{◌≡◌, ℕ, zero, suc, ◌<◌, Bool, true, false, List, length, Result, Ok, Err, refl, ap, arith, if◌then◌else◌}
use Rattle.buffa_bytes.specs.declared.error.DecodeError.{DecodeError}
use Rattle.buffa_bytes.specs.Scan.{Scanned, parsed, step_then, scan, scan_within}
use Rattle.buffa_bytes.specs.Scan.Scanned.{ends, goes}

-- a step that goes on takes a byte at least
abbrev pub Shortens : {S R : Type 0} → Scanned S R → List ℕ → Type 0
Shortens (ends r) bs = Unit {0}
Shortens (goes s rest of) bs = length rest < length bs

-- Q, a relation of a state, bytes and an answer, holds where a step ends, and where one goes on if it holds of what is behind
abbrev pub Leads : {S R : Type 0} → (S → List ℕ → R → Type 0) → Scanned S R → S → List ℕ → Type 0
Leads Q (ends r) s bs = Q s bs r
Leads {S} {R} Q (goes t rest of) s bs = (r : R) → Q t rest r → Q s bs (of r)

module _ {S R : Type 0} (Q : S → List ℕ → R → Type 0) (more : S → List ℕ → R) where
  led : (x : Scanned S R) (s : S) (bs : List ℕ) → Shortens x bs → Leads Q x s bs → ((t : S) (rest : List ℕ) → length rest < length bs → Q t rest (more t rest)) → Q s bs (step_then more x)
  led (ends r) s bs short h again = h
  led (goes t rest of) s bs short h again = h (more t rest) (again t rest short)

  kept : (x : Scanned S R) (s : S) (bs : List ℕ) → Leads Q x s bs → ((t : S) (rest : List ℕ) → Q t rest (more t rest)) → Q s bs (step_then more x)
  kept (ends r) s bs h again = h
  kept (goes t rest of) s bs h again = h (more t rest) (again t rest)

module _ {S R : Type 0} (step : S → List ℕ → Scanned S R) (out : R) where
  -- a step is answered alike, where what is behind it is
  alike : (f g : S → List ℕ → R) (x : Scanned S R) (bs : List ℕ) → Shortens x bs → ((t : S) (rest : List ℕ) → length rest < length bs → f t rest ≡ g t rest) → step_then f x ≡ step_then g x
  alike f g (ends r) bs short h = refl
  alike f g (goes t rest of) bs short h = ap of (h t rest short)

  module _ (short : (s : S) (bs : List ℕ) → Shortens (step s bs) bs) where
    -- any number of steps that the bytes bound is as good as another
    enough : (k m : ℕ) (s : S) (bs : List ℕ) → length bs < k → length bs < m → scan_within step out k s bs ≡ scan_within step out m s bs
    unfolding scan_within
    enough zero m s bs h l = absurd (omega (arith, h))
    enough (suc k) zero s bs h l = absurd (omega (arith, l))
    enough (suc k) (suc m) s bs h l =
        alike (scan_within step out k) (scan_within step out m) (step s bs) bs (short s bs)
        (λ t rest few. enough k m t rest (omega (arith, h, few)) (omega (arith, l, few)))

    -- the step at the front, and then the scan of what is behind it
    pub scan_step : (s : S) (bs : List ℕ) → scan step out s bs ≡ step_then (scan step out) (step s bs)
    unfolding scan_within scan
    scan_step s bs =
        alike (scan_within step out (length bs)) (scan step out) (step s bs) bs (short s bs)
        (λ t rest few. enough (length bs) (suc (length rest)) t rest few (omega arith))

    -- what each step leads to holds of the scan
    module _ (Q : S → List ℕ → R → Type 0) (leads : (s : S) (bs : List ℕ) → Leads Q (step s bs) s bs) where
      within_leads : (k : ℕ) (s : S) (bs : List ℕ) → length bs < k → Q s bs (scan_within step out k s bs)
      unfolding scan_within
      within_leads zero s bs h = absurd (omega (arith, h))
      within_leads (suc k) s bs h =
          led Q (scan_within step out k) (step s bs) s bs (short s bs) (leads s bs) (λ t rest few. within_leads k t rest (omega (arith, h, few)))

      pub scan_leads : (s : S) (bs : List ℕ) → Q s bs (scan step out s bs)
      unfolding scan
      scan_leads s bs = within_leads (suc (length bs)) s bs (omega arith)

  -- the same of any steps, where it holds of what stands for too many
  module _ (Q : S → List ℕ → R → Type 0) (leads : (s : S) (bs : List ℕ) → Leads Q (step s bs) s bs) (many : (s : S) (bs : List ℕ) → Q s bs out) where
    within_keeps : (k : ℕ) (s : S) (bs : List ℕ) → Q s bs (scan_within step out k s bs)
    unfolding scan_within
    within_keeps zero s bs = many s bs
    within_keeps (suc k) s bs = kept Q (scan_within step out k) (step s bs) s bs (leads s bs) (within_keeps k)

    pub scan_keeps : (s : S) (bs : List ℕ) → Q s bs (scan step out s bs)
    unfolding scan
    scan_keeps s bs = within_keeps (suc (length bs)) s bs

-- ---- steps of some forms: an end or another step, and a reading
pub if_short : {S R : Type 0} (b : Bool) (r : R) (x : Scanned S R) (bs : List ℕ) → (b ≡ false → Shortens x bs) → Shortens (if b then ends r else x) bs
if_short true r x bs h = tt
if_short false r x bs h = h refl

pub if_leads : {S R : Type 0} (Q : S → List ℕ → R → Type 0) (b : Bool) (r : R) (x : Scanned S R) (s : S) (bs : List ℕ) → (b ≡ true → Q s bs r) → (b ≡ false → Leads Q x s bs) → Leads Q (if b then ends r else x) s bs
if_leads Q true r x s bs last other = last refl
if_leads Q false r x s bs last other = other refl

pub parsed_short : {S : Type 0} (A : Type 0) (r : Result (S × List ℕ) DecodeError) (bs : List ℕ) → ((x : S × List ℕ) → r ≡ Ok x → length x.1 < length bs) → (let step : Scanned S (Result A DecodeError) = parsed r in Shortens step bs)
parsed_short A (Ok x) bs h = h x refl
parsed_short A (Err e) bs h = tt

pub parsed_leads : {S A : Type 0} (Q : S → List ℕ → Result A DecodeError → Type 0) (r : Result (S × List ℕ) DecodeError) (s : S) (bs : List ℕ)
    → ((x : S × List ℕ) → r ≡ Ok x → (a : Result A DecodeError) → Q x.0 x.1 a → Q s bs a) → ((e : DecodeError) → r ≡ Err e → Q s bs (Err e)) → Leads Q (parsed r) s bs
parsed_leads Q (Ok x) s bs ok err = λ a q. ok x refl a q
parsed_leads Q (Err e) s bs ok err = err e refl
