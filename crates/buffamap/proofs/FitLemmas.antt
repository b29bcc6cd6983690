-- A writer takes the keys and the values of a run's pairs.
use Rattle.std.proofs.Common.{◌≡◌, inl, inr, ℕ, ℤ, Bool, true, false, List, [], ◌∷◌, cond, Result, Ok, Err, refl, sym, ap, subst, FitsSigned, ◌∙◌, true≢false}
use Rattle.std.specs.Int.{w32}
use Rattle.std.specs.Ordering.{int_eq}
use Rattle.buffa_bytes.specs.declared.error.DecodeError.{DecodeError}
use Rattle.buffa_bytes.specs.PayloadValue.{number_in}
use Rattle.buffa_bytes.specs.Scan.{ParsesEach}
use Rattle.buffa_bytes.proofs.ScalarLemmas.{int32_fits}
use Rattle.buffa_bytes.specs.Values.{int32_of}
use Rattle.buffa_map.specs.Entry.{IsEntryField}
use Rattle.buffa_map.specs.EntryReading.{blanks}
use Rattle.buffa_map.specs.Enums.{ClosedFits}
use Rattle.buffa_map.specs.Pairs.{put}
use Rattle.buffa_map.specs.Run.{Run, fold_entries}
use Rattle.buffa_map.specs.Encoding.{AllHold}
use Rattle.buffa_map.specs.declared.map_entry.MapEntry.{MapEntry}
use Rattle.buffamap.specs.Choice.{two_numbers}
use Rattle.buffa_map.specs.Scalars.{int32_reading}
use Rattle.buffamap.specs.Rewrite.{Entry, ChoicePair, choice_reading}

-- the key of an entry is an int32, and its value one that is declared, if it is known
abbrev pub Fits : MapEntry ℤ ℤ → Type 0
Fits s = FitsSigned w32 s.key × (s.known ≡ true → ClosedFits two_numbers s.value)

abbrev pub AllFit : List Entry → Type 0
AllFit [] = Unit {0}
AllFit (x ∷ xs) = Fits x.parts × AllFit xs

abbrev read_or : ℤ × Bool → Result (ℤ × Bool) DecodeError → ℤ × Bool
read_or x (Ok y) = y
read_or x (Err f) = x

read_as : (x y : ℤ × Bool) → ◌≡◌ {A = Result (ℤ × Bool) DecodeError} (Ok x) (Ok y) → x ≡ y
read_as x y e = ap (read_or x) e

known_fits : (n old v : ℤ) (known : Bool) → FitsSigned w32 n → ◌≡◌ {A = ℤ × Bool} (cond (two_numbers.declares n) (n, true) (old, false)) (v, known) → known ≡ true → ClosedFits two_numbers v
known_fits n old v known fits e = by (two_numbers.declares n) refl e
  where
    by : (b : Bool) → two_numbers.declares n ≡ b → ◌≡◌ {A = ℤ × Bool} (cond b (n, true) (old, false)) (v, known) → known ≡ true → ClosedFits two_numbers v
    by true is e k = subst (ClosedFits two_numbers) (ap (λ (x : ℤ × Bool). x.0) e) (fits, is)
    by false is e k = absurd (true≢false (sym k ∙ sym (ap (λ (x : ℤ × Bool). x.1) e)))

module _ (d : ℕ) where
  step_fits : (s t : MapEntry ℤ ℤ) (f : List ℕ) → IsEntryField int32_reading choice_reading d s f t → Fits s → Fits t
  step_fits s t f (inl (k, known, field, is)) h = subst Fits (sym is) (subst (FitsSigned w32) (ap (λ (x : ℤ × Bool). x.0) (read_as _ _ field.6)) (int32_fits (number_in field.2)), h.1)
  step_fits s t f (inr (inl (v, known, field, is))) h = subst Fits (sym is) (h.0, known_fits (int32_of (number_in field.2)) s.value v known (int32_fits (number_in field.2)) (read_as _ _ field.6))
  step_fits s t f (inr (inr (n, w, one, two, field, is))) h = subst Fits (sym is) h

  each_fits : (s t : MapEntry ℤ ℤ) (ps : List (List ℕ)) → ParsesEach (IsEntryField int32_reading choice_reading d) s ps t → Fits s → Fits t
  each_fits s t [] e h = subst Fits e h
  each_fits s t (p ∷ ps) (u, step, more) h = each_fits u t ps more (step_fits s u p step h)

  blank_fits : Fits (blanks int32_reading choice_reading d)
  blank_fits = (int32_fits 0, λ _. (int32_fits 0, refl))

  pub run_fits : (n : ℕ) (b : List ℕ) (es : List Entry) → Run int32_reading choice_reading d n b es → AllFit es
  run_fits n b [] h = tt
  run_fits n b (x ∷ xs) (r, rest, (t, l, tag, len, is, entry), split, more) = (each_fits (blanks int32_reading choice_reading d) x.parts entry.0 entry.2 blank_fits, run_fits n rest xs more)

put_fits : (m : List ChoicePair) (k v : ℤ) → FitsSigned w32 k → ClosedFits two_numbers v → AllHold (FitsSigned w32) (ClosedFits two_numbers) m → AllHold (FitsSigned w32) (ClosedFits two_numbers) (put int_eq m k v)
put_fits [] k v a b h = (a, b, tt)
put_fits (e ∷ es) k v a b h = by (int_eq k e.0) (put_fits es k v a b h.2)
  where
    by : (same : Bool) → AllHold (FitsSigned w32) (ClosedFits two_numbers) (put int_eq es k v) → AllHold (FitsSigned w32) (ClosedFits two_numbers) (cond same ((e.0, v) ∷ es) (e ∷ put int_eq es k v))
    by true i = (h.0, b, h.2)
    by false i = (h.0, h.1, i)

pub pairs_fit : (es : List Entry) (m : List ChoicePair) → AllFit es → AllHold (FitsSigned w32) (ClosedFits two_numbers) m → AllHold (FitsSigned w32) (ClosedFits two_numbers) (fold_entries int_eq m es)
pairs_fit [] m f h = h
pairs_fit (x ∷ xs) m f h = pairs_fit xs (cond x.parts.known (put int_eq m x.parts.key x.parts.value) m) f.1 (step x.parts.known f.0.1)
  where
    step : (known : Bool) → (known ≡ true → ClosedFits two_numbers x.parts.value) → AllHold (FitsSigned w32) (ClosedFits two_numbers) (cond known (put int_eq m x.parts.key x.parts.value) m)
    step true g = put_fits m x.parts.key x.parts.value f.0.0 (g refl) h
    step false g = h
