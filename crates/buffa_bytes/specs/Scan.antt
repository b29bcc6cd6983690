-- A scan over bytes, one piece after another: what groups, records, packed numbers, entries and costs have in common.
use Rattle.std.specs.Prelude.{ℕ, zero, suc, List, length, Result, Ok, Err, ◌≡◌, ◌≢◌, [], ◌∷◌, ◌++◌}
use Rattle.buffa_bytes.specs.declared.error.DecodeError.{DecodeError}
use Rattle.buffa_bytes.specs.declared.error.DecodeError.TheVariants.{UnexpectedEof}

-- What the piece at the front comes to: the scan's answer; or a state and the bytes behind the piece, and what becomes of
-- the answer for these.
pub data Scanned (S R : Type 0) : Type 0 where
  ends : R → Scanned S R
  goes : S → List ℕ → (R → R) → Scanned S R

-- the answer at a step, where more gives the answer for a state and the bytes behind the piece
abbrev pub step_then : {S R : Type 0} → (S → List ℕ → R) → Scanned S R → R
step_then more (ends r) = r
step_then more (goes s rest of) = of (more s rest)

-- so many steps at most, and out where they don't do
unfoldable pub scan_within : {S R : Type 0} → (S → List ℕ → Scanned S R) → R → ℕ → S → List ℕ → R
scan_within step out zero s bs = out
scan_within step out (suc k) s bs = step_then (scan_within step out k) (step s bs)

-- Each step but the last takes a byte at least, so the bytes bound the steps.
unfoldable pub scan : {S R : Type 0} → (S → List ℕ → Scanned S R) → R → S → List ℕ → R
scan step out s bs = scan_within step out (suc (length bs)) s bs

-- what a reading of the piece at the front comes to, where the answer stays what it is behind the piece
abbrev pub parsed : {S A : Type 0} → Result (S × List ℕ) DecodeError → Scanned S (Result A DecodeError)
parsed (Ok x) = goes x.0 x.1 (λ r. r)
parsed (Err e) = ends (Err e)

-- ---- pieces of bytes, one after another, each of which takes a state to the next

-- the pieces joined
abbrev pub join : List (List ℕ) → List ℕ
join [] = []
join (p ∷ ps) = p ++ join ps

-- the pieces lead from s to t, where Step s p t says that the piece p leads from s to t
abbrev pub ParsesEach : {S : Type 0} → (S → List ℕ → S → Type 0) → S → List (List ℕ) → S → Type 0
ParsesEach Step s [] t = s ≡ t
ParsesEach {S} Step s (p ∷ ps) t = (u : S) × Step s p u × ParsesEach Step u ps t

-- some pieces at the front of bs lead from s to t, and rest follows them
abbrev pub ParsesTo : {S : Type 0} → (S → List ℕ → S → Type 0) → S → List ℕ → S → List ℕ → Type 0
ParsesTo Step s bs t rest = (ps : List (List ℕ)) × (bs ≡ join ps ++ rest) × ParsesEach Step s ps t

-- after some pieces of bs, e is why no piece begins what is left, where Fault t rest e says so of rest at t
abbrev pub ParseStops : {S : Type 0} → (S → List ℕ → S → Type 0) → (S → List ℕ → DecodeError → Type 0) → S → List ℕ → DecodeError → Type 0
ParseStops {S} Step Fault s bs e = (t : S) × (rest : List ℕ) × ParsesTo Step s bs t rest × (rest ≢ []) × Fault t rest e

-- the piece at the front, by a reading of it, or the end of the bytes
abbrev pub parse_step : {S : Type 0} → (S → List ℕ → Result (S × List ℕ) DecodeError) → S → List ℕ → Scanned S (Result S DecodeError)
parse_step f s [] = ends (Ok s)
parse_step f s (b ∷ bs) = parsed (f s (b ∷ bs))

-- the same as a reading: f takes a state to the next by the piece at the front, which has a byte at least
unfoldable pub parse_all : {S : Type 0} → (S → List ℕ → Result (S × List ℕ) DecodeError) → S → List ℕ → Result S DecodeError
parse_all f s bs = scan (parse_step f) (Err UnexpectedEof) s bs
