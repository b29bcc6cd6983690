-- The records of a number after steps.
use Rattle.std.proofs.Common.{◌≡◌, ◌≢◌, ℕ, List, [], ◌∷◌, ◌++◌, Option, Some, None, true, false, cond, refl, sym, ap, subst, ◌∙◌, not, unwrap_or, ◌==◌}
use Rattle.std.specs.List.{filter_map, last_or, cons_option}
use Rattle.std.proofs.lemmas.Bool.{eqb-false, eqb-true}
use Rattle.std.proofs.lemmas.List.{append-nil}
use Rattle.buffa_wire.specs.Records.{FieldData}
use Rattle.buffa_codec.specs.RecordsOfNumber.{sub, without, tagged}
use Rattle.std.proofs.lemmas.List.Elements.{filter-append}
use Rattle.buffa_codec.proofs.FilteredLemmas.{sub-append, sub-set, sub-set_other, sub-cons, sub-without_same, sub-without_other, sub-tagged_same, sub-tagged_other, without-tagged, without-without}
use Rattle.buffa_ext.specs.SetsAndClears.{NumberStep, set, clear, after_one, after, step_says, history, IsExactlySet, KeepsTheRest, ReadsHistory, ComesLast, TakesOut}

pub last_or-some : {A : Type 0} (d : A) (o : Option A) (xs : List A) → unwrap_or (last_or o xs) d ≡ unwrap_or (last_or None xs) (unwrap_or o d)
last_or-some d None [] = refl
last_or-some d (Some y) [] = refl
last_or-some d o (x ∷ xs) = last_or-some d (Some x) xs ∙ sym (last_or-some (unwrap_or o d) (Some x) xs)

-- one step, seen at one number
pub sub-after_one : (n : ℕ) (rs : List (ℕ × FieldData)) (c : NumberStep) → sub n (after_one rs c) ≡ unwrap_or (step_says n c) (sub n rs)
sub-after_one n rs (set m ds) =
    elim (m == n) as (λ b. (m == n) ≡ b → sub n (without m rs ++ tagged m ds) ≡ unwrap_or (cond b (Some ds) None) (sub n rs)) [
      | true ↦ λ e. rw (eqb-true m n e) (sub-append n (without n rs) (tagged n ds) ∙ rw (sub-without_same n rs) (sub-tagged_same n ds))
      | false ↦ λ e. sub-append n (without m rs) (tagged m ds) ∙ rw (sub-without_other n m (eqb-false m n e) rs, sub-tagged_other n m (eqb-false m n e) ds) (append-nil (sub n rs))
    ] refl
sub-after_one n rs (clear m) =
    elim (m == n) as (λ b. (m == n) ≡ b → sub n (without m rs) ≡ unwrap_or (cond b (Some []) None) (sub n rs))
    [ true ↦ λ e. rw (eqb-true m n e) (sub-without_same n rs) | false ↦ λ e. sub-without_other n m (eqb-false m n e) rs ] refl

last_or-cons_option : {A : Type 0} (d : A) (o : Option A) (xs : List A) → unwrap_or (last_or None xs) (unwrap_or o d) ≡ unwrap_or (last_or None (cons_option o xs)) d
last_or-cons_option d None xs = refl
last_or-cons_option d (Some y) xs = sym (last_or-some d (Some y) xs)

-- the records of a number after steps are what its last step says
pub sub-after : (n : ℕ) (rs : List (ℕ × FieldData)) (cs : List NumberStep) → sub n (after rs cs) ≡ history n rs cs
sub-after n rs [] = refl
sub-after n rs (c ∷ cs) = sub-after n (after_one rs c) cs ∙ rw (sub-after_one n rs c) (last_or-cons_option (sub n rs) (step_says n c) (filter_map (step_says n) cs))

-- ---- the last step

after-append : (rs : List (ℕ × FieldData)) (cs es : List NumberStep) → after rs (cs ++ es) ≡ after (after rs cs) es
after-append rs [] es = refl
after-append rs (c ∷ cs) es = after-append (after_one rs c) cs es

history-last : (n : ℕ) (rs : List (ℕ × FieldData)) (cs : List NumberStep) (c : NumberStep) → history n rs (cs ++ c ∷ []) ≡ sub n (after_one (after rs cs) c)
history-last n rs cs c = sym (sub-after n rs (cs ++ c ∷ [])) ∙ ap (sub n) (after-append rs cs (c ∷ []))

pub history-set : (n : ℕ) (rs : List (ℕ × FieldData)) (cs : List NumberStep) (ds : List FieldData) → history n rs (cs ++ set n ds ∷ []) ≡ ds
history-set n rs cs ds = history-last n rs cs (set n ds) ∙ sub-set n (after rs cs) ds

pub history-clear : (n : ℕ) (rs : List (ℕ × FieldData)) (cs : List NumberStep) → history n rs (cs ++ clear n ∷ []) ≡ []
history-clear n rs cs = history-last n rs cs (clear n) ∙ sub-without_same n (after rs cs)

pub history-set_other : (n m : ℕ) (rs : List (ℕ × FieldData)) (cs : List NumberStep) (ds : List FieldData) → n ≢ m → history m rs (cs ++ set n ds ∷ []) ≡ history m rs cs
history-set_other n m rs cs ds h = history-last m rs cs (set n ds) ∙ sub-set_other m n h (after rs cs) ds ∙ sub-after m rs cs

pub history-clear_other : (n m : ℕ) (rs : List (ℕ × FieldData)) (cs : List NumberStep) → n ≢ m → history m rs (cs ++ clear n ∷ []) ≡ history m rs cs
history-clear_other n m rs cs h = history-last m rs cs (clear n) ∙ sub-without_other m n h (after rs cs) ∙ sub-after m rs cs

-- ---- what a set and a clear leave, and nothing else

without-none : (n : ℕ) (rs : List (ℕ × FieldData)) → sub n rs ≡ [] → without n rs ≡ rs
without-none n [] h = refl
without-none n (r ∷ rs) h =
    elim (r.0 == n) as (λ b. cond b (r.1 ∷ sub n rs) (sub n rs) ≡ [] → cond (not b) (r ∷ without n rs) (without n rs) ≡ r ∷ rs)
    [ true ↦ λ k. some_none k | false ↦ λ k. ap (λ l. r ∷ l) (without-none n rs k) ] (sym (sub-cons n r rs) ∙ h)
  where
    some_none : {P : Type 0} → r.1 ∷ sub n rs ≡ [] → P
    some_none k = cc

pub comes_last : ComesLast
comes_last n rs ds = (without n rs, sub-without_same n rs, refl)

pub keeps_the_rest : KeepsTheRest
keeps_the_rest n rs ds = filter-append (λ r. not (r.0 == n)) (without n rs) (tagged n ds) ∙ rw (without-without n rs, without-tagged n ds) (append-nil (without n rs))

pub exactly_set : IsExactlySet
exactly_set n rs out ds = (
  λ e. (without n rs, sub-without_same n rs, without-without n rs, e),
  λ h. h.3 ∙ ap (λ l. l ++ tagged n ds) (sym (without-none n h.0 h.1) ∙ h.2),
)

pub takes_out : TakesOut
takes_out n rs out = (
  λ e. (ap (sub n) e ∙ sub-without_same n rs, ap (without n) e ∙ without-without n rs),
  λ h. sym (without-none n out h.0) ∙ h.1,
)

pub reads_history : {A : Type 0} (reads : List FieldData → A → Type 0) → ReadsHistory reads
reads_history reads n rs cs a = (λ h. subst (λ ds. reads ds a) (sub-after n rs cs) h, λ h. subst (λ ds. reads ds a) (sym (sub-after n rs cs)) h)
