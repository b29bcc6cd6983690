-- A message that is a count is read field by field.
use Rattle.std.proofs.Common.{◌≡◌, ◌≢◌, ℕ, ◌+◌, ◌-◌, ◌^◌, List, length, Ok, Err, min, refl, ap, arith, length-append}
use Rattle.std.proofs.lemmas.Bool.{ne_eqb}
use Rattle.buffa_bytes.proofs.StepLemmas.{agree_weaker}
use Rattle.buffa_bytes.proofs.WireLemmas.{check_differs}
use Rattle.buffa_bytes.specs.Readings.{skip_at, varint_at}
use Rattle.buffa_bytes.specs.declared.error.DecodeError.{DecodeError}
use Rattle.buffa_bytes.specs.declared.error.DecodeError.TheVariants.{WireTypeMismatch}
use Rattle.buffa_bytes.specs.declared.wire_type.WireType.{WireType}
use Rattle.buffa_bytes.specs.declared.wire_type.WireType.TheVariants.{Varint}
use Rattle.sample_types.proofs.MergedLemmas.{Shortens}
use Rattle.sample_types.specs.Count.{count_field}
use Rattle.sample_types.specs.CountFacts.{count_sound}

module _ (d : ℕ) where
  pub count_shortens : Shortens (count_field d)
  count_shortens v n w bs = agree_weaker (count_sound d v n w bs) (λ x p. omega (arith, ap length p.2, length-append p.0 x.1)) (λ _ _. tt)

  module _ (v : ℕ) (bs : List ℕ) where
    pub varint_counted : (x : ℕ) (rest : List ℕ) → varint_at bs ≡ Ok (x, rest) → count_field d v 9 Varint bs ≡ Ok (min (v + 1) (2 ^ 64 - 1), rest)
    varint_counted x rest there = rw there refl

    pub varint_refused : (e : DecodeError) → varint_at bs ≡ Err e → count_field d v 9 Varint bs ≡ Err e
    varint_refused e bad = rw bad refl

    pub wire_refused : (w : WireType) → w ≢ Varint → count_field d v 9 w bs ≡ Err (WireTypeMismatch 9 Varint w)
    wire_refused w other = rw (check_differs 9 Varint w other) refl

    pub other_kept : (n : ℕ) (w : WireType) (rest : List ℕ) → n ≢ 9 → skip_at d n w bs ≡ Ok rest → count_field d v n w bs ≡ Ok (v, rest)
    other_kept n w rest other skipped = rw (ne_eqb n 9 other, skipped) refl

    pub other_refused : (n : ℕ) (w : WireType) (e : DecodeError) → n ≢ 9 → skip_at d n w bs ≡ Err e → count_field d v n w bs ≡ Err e
    other_refused n w e other bad = rw (ne_eqb n 9 other, bad) refl
