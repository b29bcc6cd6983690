-- The records of a number.
use Rattle.std.proofs.Common.{◌≡◌, ◌≢◌, ℕ, List, [], ◌∷◌, ◌++◌, Option, Some, None, true, false, cond, refl, sym, ◌∙◌, ap, not, map, rules, ◌==◌, arith}
use Rattle.std.specs.List.{filter_map, last_or, filter}
use Rattle.std.proofs.lemmas.Grind.{common_steps}
use Rattle.std.proofs.lemmas.List.Elements.{filter-append, filter_map-append}
use Rattle.std.proofs.lemmas.List.{map-append, append-nil}
use Rattle.std.specs.Option.{option_or}
use Rattle.buffa_wire.specs.Records.{FieldData}
use Rattle.buffa_codec.specs.Decoded.{last_read}
use Rattle.buffa_codec.specs.RecordsOfNumber.{sub, without, tagged}

pub sub-cons : (n : ℕ) (r : ℕ × FieldData) (rs : List (ℕ × FieldData)) → sub n (r ∷ rs) ≡ cond (r.0 == n) (r.1 ∷ sub n rs) (sub n rs)
sub-cons n r rs = elim (r.0 == n) as (λ b. map (λ q. q.1) (cond b (r ∷ filter (λ q. q.0 == n) rs) (filter (λ q. q.0 == n) rs)) ≡ cond b (r.1 ∷ sub n rs) (sub n rs)) [ true ↦ refl | false ↦ refl ]

test_false : (k m n : ℕ) → m ≢ n → (k == m) ≡ true → (k == n) ≡ false
test_false k m n h e = grind (arith, common_steps)

-- the records of a number among those of other numbers
pub sub-without_same : (n : ℕ) (rs : List (ℕ × FieldData)) → sub n (without n rs) ≡ []
sub-without_same n [] = refl
sub-without_same n (r ∷ rs) =
    elim (r.0 == n) as (λ b. (r.0 == n) ≡ b → sub n (cond (not b) (r ∷ without n rs) (without n rs)) ≡ [])
    [ true ↦ λ e. sub-without_same n rs | false ↦ λ e. sub-cons n r (without n rs) ∙ rw e (sub-without_same n rs) ] refl

pub sub-without_other : (n m : ℕ) → m ≢ n → (rs : List (ℕ × FieldData)) → sub n (without m rs) ≡ sub n rs
sub-without_other n m h [] = refl
sub-without_other n m h (r ∷ rs) =
    elim (r.0 == m) as (λ b. (r.0 == m) ≡ b → sub n (cond (not b) (r ∷ without m rs) (without m rs)) ≡ sub n (r ∷ rs)) [
      | true ↦ λ e. sub-without_other n m h rs ∙ sym (sub-cons n r rs ∙ rw (test_false r.0 m n h e) refl)
      | false ↦ λ e. sub-cons n r (without m rs) ∙ rw (sub-without_other n m h rs) (sym (sub-cons n r rs))
    ] refl

pub sub-tagged_same : (n : ℕ) (ds : List FieldData) → sub n (tagged n ds) ≡ ds
sub-tagged_same n [] = refl
sub-tagged_same n (d ∷ ds) = let h = sub-tagged_same n ds in grind (common_steps, rules)

pub sub-tagged_other : (n m : ℕ) → m ≢ n → (ds : List FieldData) → sub n (tagged m ds) ≡ []
sub-tagged_other n m h [] = refl
sub-tagged_other n m h (d ∷ ds) = let e = sub-tagged_other n m h ds in grind (common_steps, rules)

pub sub-append : (n : ℕ) (rs qs : List (ℕ × FieldData)) → sub n (rs ++ qs) ≡ sub n rs ++ sub n qs
sub-append n rs qs = ap (map (λ r. r.1)) (filter-append (λ r. r.0 == n) rs qs) ∙ map-append (λ (r : ℕ × FieldData). r.1) (filter (λ r. r.0 == n) rs) (filter (λ r. r.0 == n) qs)

-- the records of a number after a set of it
pub sub-set : (n : ℕ) (rs : List (ℕ × FieldData)) (ds : List FieldData) → sub n (without n rs ++ tagged n ds) ≡ ds
sub-set n rs ds = sub-append n (without n rs) (tagged n ds) ∙ rw (sub-without_same n rs) (sub-tagged_same n ds)

-- a set of another number
pub sub-set_other : (n m : ℕ) → m ≢ n → (rs : List (ℕ × FieldData)) (ds : List FieldData) → sub n (without m rs ++ tagged m ds) ≡ sub n rs
sub-set_other n m h rs ds = sub-append n (without m rs) (tagged m ds) ∙ rw (sub-without_other n m h rs, sub-tagged_other n m h ds) (append-nil (sub n rs))

pub last_or-end : {A : Type 0} (o : Option A) (ys : List A) → last_or o ys ≡ option_or (last_or None ys) o
last_or-end o [] = refl
last_or-end o (y ∷ ys) = again (last_or None ys) (last_or-end (Some y) ys)
  where
    again : (p : Option _) → last_or (Some y) ys ≡ option_or p (Some y) → last_or (Some y) ys ≡ option_or (last_or (Some y) ys) o
    again None e = e ∙ ap (λ q. option_or q o) (sym e)
    again (Some z) e = e ∙ ap (λ q. option_or q o) (sym e)

pub last_or-append : {A : Type 0} (o : Option A) (xs ys : List A) → last_or o (xs ++ ys) ≡ option_or (last_or None ys) (last_or o xs)
last_or-append o [] ys = last_or-end o ys
last_or-append o (x ∷ xs) ys = last_or-append (Some x) xs ys

pub last_read-append : {M : Type 0} (one : FieldData → Option M) (s r : List FieldData) → last_read one (s ++ r) ≡ option_or (last_read one r) (last_read one s)
last_read-append one s r = ap (last_or None) (filter_map-append one s r) ∙ last_or-append None (filter_map one s) (filter_map one r)

pub without-without : (n : ℕ) (rs : List (ℕ × FieldData)) → without n (without n rs) ≡ without n rs
without-without n [] = refl
without-without n (r ∷ rs) =
    elim (r.0 == n) as (λ b. (r.0 == n) ≡ b → without n (cond (not b) (r ∷ without n rs) (without n rs)) ≡ cond (not b) (r ∷ without n rs) (without n rs))
    [ true ↦ λ e. without-without n rs | false ↦ λ e. ap (λ b. cond (not b) (r ∷ without n (without n rs)) (without n (without n rs))) e ∙ ap (λ l. r ∷ l) (without-without n rs) ] refl

pub without-tagged : (n : ℕ) (ds : List FieldData) → without n (tagged n ds) ≡ []
without-tagged n [] = refl
without-tagged n (d ∷ ds) = let h = without-tagged n ds in grind (common_steps, rules)

pub set-set : (n : ℕ) (rs : List (ℕ × FieldData)) (ds es : List FieldData) → without n (without n rs ++ tagged n ds) ++ tagged n es ≡ without n rs ++ tagged n es
set-set n rs ds es = ap (λ l. l ++ tagged n es) (filter-append (λ r. not (r.0 == n)) (without n rs) (tagged n ds) ∙ rw (without-without n rs, without-tagged n ds) (append-nil (without n rs)))
