-- Pieces one after another: what is read of them, and the grammar.
use Rattle.std.proofs.Common.{◌≡◌, ◌≢◌, ℕ, ◌<◌, Bool, true, false, List, [], ◌∷◌, ◌++◌, length, Result, Ok, Err, refl, sym, ap, subst, ◌∙◌, arith, append_assoc, append-nil, length-append, if◌then◌else◌}
use Rattle.std.specs.Prelude.{MatchResult}
use Rattle.buffa_bytes.specs.declared.error.DecodeError.{DecodeError}
use Rattle.buffa_bytes.specs.declared.error.DecodeError.TheVariants.{UnexpectedEof}
use Rattle.buffa_bytes.specs.Scan.{Scanned, parsed, scan, step_then, join, ParsesEach, ParsesTo, ParseStops, parse_all, parse_step}
use Rattle.buffa_bytes.specs.Scan.Scanned.{ends, goes}
use Rattle.buffa_bytes.proofs.StepLemmas.{Agrees, agree_weaker}
use Rattle.buffa_bytes.proofs.ScanLemmas.{Leads, Shortens, parsed_leads, parsed_short, scan_keeps, scan_leads, scan_step}
pub use Rattle.buffa_bytes.proofs.StepLemmas.{err_same, ok_no_err, ok_same}

-- lists that are the same have the same first, and the same others
pub heads : {A : Type 0} {x y : A} {xs ys : List A} → x ∷ xs ≡ y ∷ ys → x ≡ y
heads h = cc

pub tails : {A : Type 0} {x y : A} {xs ys : List A} → x ∷ xs ≡ y ∷ ys → xs ≡ ys
tails h = cc

join-last : (ps : List (List ℕ)) (p : List ℕ) → join (ps ++ p ∷ []) ≡ join ps ++ p
join-last [] p = append-nil p
join-last (q ∷ ps) p = ap (λ z. q ++ z) (join-last ps p) ∙ sym (append_assoc q (join ps) p)

-- r is a fault, and e is told of it; where P holds, e is that fault
abbrev pub Answers : {A : Type 0} → Type 0 → Result A DecodeError → DecodeError → Type 0
Answers P r e = (x : DecodeError) × (r ≡ Err x) × (P → e ≡ x)

pub answer : {A : Type 0} {P : Type 0} {r : Result A DecodeError} {e : DecodeError} → r ≡ Err e → Answers P r e
answer {e = e} h = (e, h, λ _. refl)

-- the same of another reading, which is that fault too
pub answers_as : {A B : Type 0} {P : Type 0} {r : Result A DecodeError} {q : Result B DecodeError} {e : DecodeError} → ((x : DecodeError) → r ≡ Err x → q ≡ Err x) → Answers P r e → Answers P q e
answers_as f (x, h, k) = (x, f x h, k)

-- ---- a reading along bytes, each step of which takes a byte at least
abbrev pub Falls : {S : Type 0} → (S → List ℕ → Result (S × List ℕ) DecodeError) → Type 0
Falls {S} f = (s : S) (bs : List ℕ) (x : S × List ℕ) → f s bs ≡ Ok x → length x.1 < length bs

pub has_byte : (bs : List ℕ) → bs ≢ [] → 0 < length bs
has_byte [] n = absurd (n refl)
has_byte (b ∷ bs) n = omega arith

pub not_nil : (bs : List ℕ) → 0 < length bs → bs ≢ []
not_nil bs h e = absurd (omega (arith, h, ap length e))

module _ {S : Type 0} (f : S → List ℕ → Result (S × List ℕ) DecodeError) where
  module _ (falls : Falls f) where
    step_short : (s : S) (bs : List ℕ) → Shortens (parse_step f s bs) bs
    step_short s [] = tt
    step_short s (b ∷ bs) = parsed_short _ (f s (b ∷ bs)) (b ∷ bs) (falls s (b ∷ bs))

    turn : (s : S) (bs : List ℕ) → parse_all f s bs ≡ step_then (parse_all f) (parse_step f s bs)
    unfolding parse_all
    turn s bs = scan_step (parse_step f) (Err UnexpectedEof) step_short s bs

    pub along_ok : (s t : S) (bs x : List ℕ) → 0 < length bs → f s bs ≡ Ok (t, x) → parse_all f s bs ≡ parse_all f t x
    along_ok s t [] x some h = absurd (omega arith)
    along_ok s t (b ∷ bs) x some h = turn s (b ∷ bs) ∙ rw h refl

    pub along_err : (s : S) (bs : List ℕ) (e : DecodeError) → 0 < length bs → f s bs ≡ Err e → parse_all f s bs ≡ Err e
    along_err s [] e some h = absurd (omega arith)
    along_err s (b ∷ bs) e some h = turn s (b ∷ bs) ∙ rw h refl

    pub along_none : (s : S) → parse_all f s [] ≡ Ok s
    along_none s = turn s []

  -- what holds at the end and at a fault, and before a piece if it does behind it, holds of what is read
  module _ (Q : S → List ℕ → Result S DecodeError → Type 0) (none : (s : S) → Q s [] (Ok s))
      (bad : (s : S) (b : ℕ) (bs : List ℕ) (e : DecodeError) → f s (b ∷ bs) ≡ Err e → Q s (b ∷ bs) (Err e))
      (good : (s : S) (b : ℕ) (bs : List ℕ) (x : S × List ℕ) (r : Result S DecodeError) → f s (b ∷ bs) ≡ Ok x → Q x.0 x.1 r → Q s (b ∷ bs) r) where
    step_leads : (s : S) (bs : List ℕ) → Leads Q (parse_step f s bs) s bs
    step_leads s [] = none s
    step_leads s (b ∷ bs) = parsed_leads Q (f s (b ∷ bs)) s (b ∷ bs) (λ x e a q. good s b bs x a e q) (bad s b bs)

    pub parse_leads : Falls f → (s : S) (bs : List ℕ) → Q s bs (parse_all f s bs)
    unfolding parse_all
    parse_leads falls s bs = scan_leads (parse_step f) (Err UnexpectedEof) (step_short falls) Q step_leads s bs

    -- the same of any reading, where it holds of the fault that stands for too many steps
    pub parse_keeps : ((s : S) (bs : List ℕ) → Q s bs (Err UnexpectedEof)) → (s : S) (bs : List ℕ) → Q s bs (parse_all f s bs)
    unfolding parse_all
    parse_keeps many s bs = scan_keeps (parse_step f) (Err UnexpectedEof) Q step_leads many s bs

module _ {S : Type 0} (Step : S → List ℕ → S → Type 0) where
  pub ParsesEach-last : (ps : List (List ℕ)) (p : List ℕ) (s t u : S) → ParsesEach Step s ps t → Step t p u → ParsesEach Step s (ps ++ p ∷ []) u
  ParsesEach-last [] p s t u h k = (u, subst (λ (z : S). Step z p u) (sym h) k, refl)
  ParsesEach-last (q ∷ ps) p s t u h k = (h.0, h.1, ParsesEach-last ps p h.0 t u h.2 k)

  -- one piece more
  pub ParsesTo-more : (bs : List ℕ) (s t u : S) (p rest x : List ℕ) → ParsesTo Step s bs t rest → Step t p u → rest ≡ p ++ x → ParsesTo Step s bs u x
  ParsesTo-more bs s t u p rest x h k e = (
    h.0 ++ p ∷ [],
    h.1 ∙ ap (λ z. join h.0 ++ z) e ∙ sym (append_assoc (join h.0) p x) ∙ ap (λ z. z ++ x) (sym (join-last h.0 p)),
    ParsesEach-last h.0 p s t u h.2 k,
  )

  -- a piece before
  pub ParsesTo-first : (bs : List ℕ) (s t u : S) (p mid rest : List ℕ) → Step s p t → bs ≡ p ++ mid → ParsesTo Step t mid u rest → ParsesTo Step s bs u rest
  ParsesTo-first bs s t u p mid rest h e k = (p ∷ k.0, e ∙ ap (λ z. p ++ z) k.1 ∙ sym (append_assoc p (join k.0) rest), (t, h, k.2))

-- ---- pieces up to an end
-- pieces lead from s to a state of which, with the bytes that follow them, X says x
abbrev pub UpTo : {S R : Type 0} → (S → List ℕ → S → Type 0) → (S → List ℕ → R → Type 0) → S → List ℕ → R → Type 0
UpTo {S} Step X s bs x = (t : S) × (rest : List ℕ) × ParsesTo Step s bs t rest × X t rest x

-- a step goes on behind a piece, and changes no answer; or it ends with an answer, and X says that one
abbrev pub Meets : {S R : Type 0} → (S → List ℕ → S → Type 0) → (S → List ℕ → R → Type 0) → Scanned S R → S → List ℕ → Type 0
Meets Step X (ends r) s bs = X s bs r
Meets {R = R} Step X (goes t rest of) s bs = (p : List ℕ) × Step s p t × (bs ≡ p ++ rest) × ((r : R) → of r ≡ r)

module _ {S R : Type 0} (Step : S → List ℕ → S → Type 0) (X : S → List ℕ → R → Type 0) where
  pub if_meets : (b : Bool) (r : R) (x : Scanned S R) (s : S) (bs : List ℕ) → (b ≡ true → X s bs r) → (b ≡ false → Meets Step X x s bs) → Meets Step X (if b then ends r else x) s bs
  if_meets true r x s bs last other = last refl
  if_meets false r x s bs last other = other refl

  module _ (some : (s t : S) (p : List ℕ) → Step s p t → 0 < length p) where
    short : (x : Scanned S R) (s : S) (bs : List ℕ) → Meets Step X x s bs → Shortens x bs
    short (ends r) s bs m = tt
    short (goes t rest of) s bs (p, h, e, same) = omega (arith, some s t p h, ap length e, length-append p rest)

    leads : (x : Scanned S R) (s : S) (bs : List ℕ) → Meets Step X x s bs → Leads (UpTo Step X) x s bs
    leads (ends r) s bs m = (s, bs, ([], refl, refl), m)
    leads (goes t rest of) s bs (p, h, e, same) = λ r (u, end, w, x). (u, end, ParsesTo-first Step bs s t u p rest end h e w, subst (X u end) (sym (same r)) x)

    module _ (step : S → List ℕ → Scanned S R) (out : R) (meets : (s : S) (bs : List ℕ) → Meets Step X (step s bs) s bs) where
      shortens : (s : S) (bs : List ℕ) → Shortens (step s bs) bs
      shortens s bs = short (step s bs) s bs (meets s bs)

      pub upto_turn : (s : S) (bs : List ℕ) → scan step out s bs ≡ step_then (scan step out) (step s bs)
      upto_turn s bs = scan_step step out shortens s bs

      -- what is read is what X says behind pieces
      pub upto_sound : (s : S) (bs : List ℕ) → UpTo Step X s bs (scan step out s bs)
      upto_sound s bs = scan_leads step out shortens (UpTo Step X) (λ s bs. leads (step s bs) s bs (meets s bs)) s bs

      -- and pieces are passed, up to where a step ends
      pub upto_complete : ((s t : S) (p rest : List ℕ) → Step s p t → step s (p ++ rest) ≡ goes t rest (λ r. r)) → (s : S) (bs : List ℕ) (r : R) → UpTo Step (λ t rest q. step t rest ≡ ends q) s bs r → scan step out s bs ≡ r
      upto_complete goes_on s bs r (t, rest, ([], is, same), e) = upto_turn s bs ∙ rw (is, same, e) refl
      upto_complete goes_on s bs r (t, rest, (p ∷ ps, is, (u, h, w)), e) =
          upto_turn s bs ∙ rw (is, append_assoc p (join ps) rest, goes_on s u p (join ps ++ rest) h) (upto_complete goes_on u (join ps ++ rest) r (t, rest, (ps, refl, w), e))

-- an end, where there is an answer, and a fault otherwise
abbrev pub Ends : {S A : Type 0} → (S → List ℕ → A → Type 0) → (S → List ℕ → DecodeError → Type 0) → S → List ℕ → Result A DecodeError → Type 0
Ends End Fault s bs r = MatchResult r (End s bs) (Fault s bs)

module _ {S A : Type 0} (Step : S → List ℕ → S → Type 0) (End : S → List ℕ → A → Type 0) (Fault : S → List ℕ → DecodeError → Type 0) where
  pub parsed_meets : (r : Result (S × List ℕ) DecodeError) (s : S) (bs : List ℕ) → Agrees r (λ x. (p : List ℕ) × Step s p x.0 × (bs ≡ p ++ x.1)) (Fault s bs) → Meets Step (Ends End Fault) (parsed r) s bs
  parsed_meets (Ok x) s bs a = (a.holds.0, a.holds.1, a.holds.2, λ r. refl)
  parsed_meets (Err e) s bs a = a.holds

  pub upto_agrees : (r : Result A DecodeError) (s : S) (bs : List ℕ) → UpTo Step (Ends End Fault) s bs r → Agrees r (UpTo Step End s bs) (UpTo Step Fault s bs)
  upto_agrees (Ok x) s bs h = record { holds = h }
  upto_agrees (Err e) s bs h = record { holds = h }

-- ---- pieces up to the end of the bytes
module _ {S : Type 0} (Step : S → List ℕ → S → Type 0) (f : S → List ℕ → Result (S × List ℕ) DecodeError) (Fault : S → List ℕ → DecodeError → Type 0)
    (sound : (s : S) (bs : List ℕ) → Agrees (f s bs) (λ x. (p : List ℕ) × Step s p x.0 × (bs ≡ p ++ x.1)) (Fault s bs))
    (complete : (s t : S) (p rest : List ℕ) → Step s p t → f s (p ++ rest) ≡ Ok (t, rest))
    (P : Type 0) (faulty : (s : S) (bs : List ℕ) (e : DecodeError) → Fault s bs e → Answers P (f s bs) e)
    (some : (s t : S) (p : List ℕ) → Step s p t → 0 < length p) where
  abbrev AtEnd : S → List ℕ → S → Type 0
  AtEnd t rest u = (rest ≡ []) × (t ≡ u)

  abbrev AtFault : S → List ℕ → DecodeError → Type 0
  AtFault t rest e = (rest ≢ []) × Fault t rest e

  meets : (s : S) (bs : List ℕ) → Meets Step (Ends AtEnd AtFault) (parse_step f s bs) s bs
  meets s [] = (refl, refl)
  meets s (b ∷ bs) = parsed_meets Step AtEnd AtFault (f s (b ∷ bs)) s (b ∷ bs) (agree_weaker (sound s (b ∷ bs)) (λ x h. h) (λ e h. ((λ z. cc), h)))

  goes_on : (s t : S) (p rest : List ℕ) → Step s p t → parse_step f s (p ++ rest) ≡ goes t rest (λ r. r)
  goes_on s t [] rest h = absurd (omega (arith, some s t [] h))
  goes_on s t (b ∷ p) rest h = rw (complete s t (b ∷ p) rest h) refl

  passed : (s t : S) (bs rest : List ℕ) (r : Result S DecodeError) → ParsesTo Step s bs t rest → parse_step f t rest ≡ ends r → parse_all f s bs ≡ r
  unfolding parse_all
  passed s t bs rest r w e = upto_complete Step (Ends AtEnd AtFault) some (parse_step f) (Err UnexpectedEof) meets goes_on s bs r (t, rest, w, e)

  stops : (t : S) (rest : List ℕ) (x : DecodeError) → rest ≢ [] → f t rest ≡ Err x → parse_step f t rest ≡ ends (Err x)
  stops t [] x n k = absurd (n refl)
  stops t (b ∷ rest) x n k = rw k refl

  pub along_complete : (s t : S) (bs : List ℕ) → ParsesTo Step s bs t [] → parse_all f s bs ≡ Ok t
  along_complete s t bs w = passed s t bs [] (Ok t) w refl

  pub along_faulty : (s : S) (bs : List ℕ) (e : DecodeError) → ParseStops Step Fault s bs e → Answers P (parse_all f s bs) e
  along_faulty s bs e (t, rest, w, n, h) = answers_as (λ x k. passed s t bs rest (Err x) w (stops t rest x n k)) (faulty t rest e h)

  pub along_sound : (s : S) (bs : List ℕ) → Agrees (parse_all f s bs) (λ t. ParsesTo Step s bs t []) (λ e. ParseStops Step Fault s bs e)
  unfolding parse_all
  along_sound s bs =
      let all = upto_sound Step (Ends AtEnd AtFault) some (parse_step f) (Err UnexpectedEof) meets s bs in
      agree_weaker (upto_agrees Step AtEnd AtFault (scan (parse_step f) (Err UnexpectedEof) s bs) s bs all)
      (λ t (u, rest, w, (e, is)). subst (λ z. ParsesTo Step s bs t z) e (subst (λ z. ParsesTo Step s bs z rest) is w)) (λ e (u, rest, w, (n, h)). (u, rest, w, n, h))
