-- A census is read field by field.
use Rattle.std.proofs.Common.{◌≡◌, ◌≢◌, inl, inr, ℕ, ◌==◌, ◌<◌, ℤ, true, List, [], ◌++◌, length, ◌≤◌, Result, None, Ok, Err, refl, ap, sym, subst, ◌∙◌, arith, append_assoc, length-append, nat_eq}
use Rattle.std.specs.Cmp.Lexicographic.{pointwise}
use Rattle.std.proofs.lemmas.Bool.{ne_eqb}
use Rattle.buffa_bytes.proofs.DelimitedLemmas.{delimited_faulty, delimited_sound, delimited_taken}
use Rattle.buffa_bytes.proofs.FieldLemmas.{payload_sound}
use Rattle.buffa_bytes.proofs.StepLemmas.{Agrees, agree_bind, agree_if}
use Rattle.buffa_bytes.proofs.TailLemmas.{tail_shorter}
use Rattle.buffa_bytes.proofs.WireLemmas.{check_differs, check_sound, checked_same}
use Rattle.buffa_bytes.specs.Field.{TakesDelimited}
use Rattle.buffa_bytes.specs.Readings.{check_wire, delimited_at, skip_at, tag_at, ◌>>=◌}
use Rattle.buffa_bytes.specs.Unread.{IsTailOf}
use Rattle.buffa_bytes.specs.declared.error.DecodeError.{DecodeError}
use Rattle.buffa_bytes.specs.declared.error.DecodeError.TheVariants.{WireTypeMismatch}
use Rattle.buffa_bytes.specs.declared.wire_type.WireType.{WireType}
use Rattle.buffa_bytes.specs.declared.wire_type.WireType.TheVariants.{LengthDelimited}
use Rattle.buffa_wire.specs.BudgetLeft.{BudgetLeft, IsLimit, Lacks}
use Rattle.buffa_map.proofs.EntryLemmas.{entry_complete, entry_faulty, entry_sound}
use Rattle.buffa_map.proofs.ChargeLemmas.{charge_free}
use Rattle.buffa_map.proofs.TailLemmas.{tail_behind}
use Rattle.buffa_map.specs.Entry.{EntryFault, EntryOf}
use Rattle.buffa_map.specs.EntryReading.{blanks, entry_of, charge_of}
use Rattle.buffa_map.specs.Pairs.{put}
use Rattle.buffa_map.specs.Run.{step}
use Rattle.buffa_map.specs.Scalars.{int32_reading, text_reading}
use Rattle.buffa_map.specs.declared.map_entry.MapEntry.{MapEntry}
use Rattle.sample_types.proofs.MergedLemmas.{Shortens, field_merged, field_refused}
use Rattle.sample_types.specs.Census.{census_field, census_merged}
use Rattle.sample_types.specs.Fields.{skipped_field}

abbrev Counts : Type 0
Counts = List (List ℕ × ℤ)

module _ (d : ℕ) where
  -- the counts with this entry
  abbrev said_at : Counts → List ℕ → List ℕ → Result (Counts × List ℕ) DecodeError
  said_at es e rest = entry_of text_reading int32_reading d e >>= (λ s. Ok (step (pointwise nat_eq) es s, rest))

  -- the counts with the entry at the front, behind its tag
  abbrev entry_at : Counts → List ℕ → Result (Counts × List ℕ) DecodeError
  entry_at es bs = delimited_at bs >>= (λ e. said_at es e.0 e.1)

  said_shortens : (es : Counts) (bs e rest : List ℕ) → TakesDelimited bs e rest → Agrees (said_at es e rest) (λ x. length x.1 ≤ length bs) (λ e. Unit {0})
  said_shortens es bs e rest (t, v, is) = agree_bind (entry_sound text_reading int32_reading d e)
      (λ s _. record { holds = omega (arith, ap length is, length-append t (e ++ rest), length-append e rest) }) (λ _ _. tt)

  read_shortens : (es : Counts) (bs : List ℕ) → Agrees (entry_at es bs) (λ x. length x.1 ≤ length bs) (λ e. Unit {0})
  read_shortens es bs = agree_bind (delimited_sound bs) (λ e t. said_shortens es bs e.0 e.1 t) (λ _ _. tt)

  skipped_shortens : (es : Counts) (n : ℕ) (w : WireType) (bs : List ℕ) → Agrees (skipped_field d es n w bs) (λ x. length x.1 ≤ length bs) (λ e. Unit {0})
  skipped_shortens es n w bs = agree_bind (payload_sound d n w bs) (λ rest p. record { holds = omega (arith, ap length p.2, length-append p.0 rest) }) (λ _ _. tt)

  entry_field_shortens : (es : Counts) (w : WireType) (bs : List ℕ) → Agrees (check_wire 5 LengthDelimited w >>= (λ _. entry_at es bs)) (λ x. length x.1 ≤ length bs) (λ e. Unit {0})
  entry_field_shortens es w bs = agree_bind (check_sound 5 LengthDelimited w) (λ _ _. read_shortens es bs) (λ _ _. tt)

  pub census_shortens : Shortens (census_field d)
  census_shortens es n w bs = agree_if (n == 5) (λ _. entry_field_shortens es w bs) (λ _. skipped_shortens es n w bs)

  -- ---- one field
  module _ (es : Counts) (bs : List ℕ) where
    pub entry_put : (p rest : List ℕ) (s : MapEntry (List ℕ) ℤ) → delimited_at bs ≡ Ok (p, rest) → entry_of text_reading int32_reading d p ≡ Ok s → s.known ≡ true →
        census_field d es 5 LengthDelimited bs ≡ Ok (put (pointwise nat_eq) es s.key s.value, rest)
    entry_put p rest s there read known = rw (there, read, known) refl

    pub entry_refused : (p rest : List ℕ) (e : DecodeError) → delimited_at bs ≡ Ok (p, rest) → entry_of text_reading int32_reading d p ≡ Err e → census_field d es 5 LengthDelimited bs ≡ Err e
    entry_refused p rest e there bad = rw (there, bad) refl

    pub length_refused : (e : DecodeError) → delimited_at bs ≡ Err e → census_field d es 5 LengthDelimited bs ≡ Err e
    length_refused e bad = rw bad refl

    pub wire_refused : (w : WireType) → w ≢ LengthDelimited → census_field d es 5 w bs ≡ Err (WireTypeMismatch 5 LengthDelimited w)
    wire_refused w other = rw (check_differs 5 LengthDelimited w other) refl

    pub other_kept : (n : ℕ) (w : WireType) (rest : List ℕ) → n ≢ 5 → skip_at d n w bs ≡ Ok rest → census_field d es n w bs ≡ Ok (es, rest)
    other_kept n w rest other skipped = rw (ne_eqb n 5 other, skipped) refl

    pub other_refused : (n : ℕ) (w : WireType) (e : DecodeError) → n ≢ 5 → skip_at d n w bs ≡ Err e → census_field d es n w bs ≡ Err e
    other_refused n w e other bad = rw (ne_eqb n 5 other, bad) refl

  -- ---- a turn of the loop
  module _ (es new : Counts) (bs mid rest : List ℕ) (n : ℕ) (w : WireType) (tag : tag_at bs ≡ Ok (n, w, mid)) where
    -- an entry is counted, and then what follows it
    pub entry_counted : n ≡ 5 → check_wire n LengthDelimited w ≡ Ok tt → (e : List ℕ) (s : MapEntry (List ℕ) ℤ) → EntryOf text_reading int32_reading d mid e s rest →
        new ≡ step (pointwise nat_eq) es s → census_merged d es bs ≡ census_merged d new rest
    entry_counted five checked e s entry is =
        let wire : check_wire 5 LengthDelimited w ≡ Ok tt = subst (λ z. check_wire z LengthDelimited w ≡ Ok tt) five checked in
        field_merged (census_field d) census_shortens es bs mid n w tag new rest
        (rw (is, five, wire, delimited_taken mid e rest entry.0, entry_complete text_reading int32_reading d e s entry.1) refl)

    -- another field is passed over, and then comes what follows it
    pub other_passed : n ≢ 5 → skip_at d n w mid ≡ Ok rest → new ≡ es → census_merged d es bs ≡ census_merged d new rest
    other_passed other skipped is = field_merged (census_field d) census_shortens es bs mid n w tag new rest (rw is (other_kept es mid n w rest other skipped))

  -- ---- a refusal
  no_lack : (cost : ℕ) (left : BudgetLeft) (p : List ℕ) → cost ≤ left.memory → Lacks left (charge_of text_reading int32_reading d cost p) → ⊥
  no_lack cost left p enough lacks =
      let free = charge_free text_reading int32_reading d (λ _ _ _. refl) (λ _ _ _. refl) (blanks text_reading int32_reading d) p (refl, refl) in
      elim lacks [ inl few ↦ absurd (omega (arith, few, ap (λ z. z.unknown) free)) | inr few ↦ absurd (omega (arith, enough, few, ap (λ z. z.memory) free)) ]

  -- an entry that is refused, and for no limit, is none
  bad_entry : (es : Counts) (cost : ℕ) (left : BudgetLeft) (bs : List ℕ) (f : DecodeError) → EntryFault text_reading int32_reading d cost 0 left bs f → (IsLimit f → ⊥) →
      (x : DecodeError) × (census_field d es 5 LengthDelimited bs ≡ Err x)
  bad_entry es cost left bs f (inl bad) unlimited = (f, length_refused es bs f (delimited_faulty bs f bad))
  bad_entry es cost left bs f (inr (p, rest, there, inl (few, is))) unlimited = absurd (unlimited (subst IsLimit (sym is) tt))
  bad_entry es cost left bs f (inr (p, rest, there, inr (enough, inl lacks))) unlimited = absurd (no_lack cost left p enough lacks)
  bad_entry es cost left bs f (inr (p, rest, there, inr (enough, inr (inl bad)))) unlimited =
      let x = entry_faulty text_reading int32_reading d p f bad in
      (x.0, entry_refused es bs p rest x.0 (delimited_taken bs p rest there) x.1)
  bad_entry es cost left bs f (inr (p, rest, there, inr (enough, inr (inr (s, entry, known, few, is))))) unlimited = absurd (unlimited (subst IsLimit (sym is) tt))

  module _ (es : Counts) (bs mid : List ℕ) (n : ℕ) (w : WireType) (tag : tag_at bs ≡ Ok (n, w, mid)) where
    pub wire_none : n ≡ 5 → (e : DecodeError) → check_wire n LengthDelimited w ≡ Err e → census_merged d es bs ≡ None
    wire_none five e bad =
        let wire : check_wire 5 LengthDelimited w ≡ Err e = subst (λ z. check_wire z LengthDelimited w ≡ Err e) five bad in
        field_refused (census_field d) census_shortens es bs mid n w tag e (rw (five, wire) refl)

    pub entry_none : n ≡ 5 → check_wire n LengthDelimited w ≡ Ok tt → (cost : ℕ) (left : BudgetLeft) (f : DecodeError) → EntryFault text_reading int32_reading d cost 0 left mid f → (IsLimit f → ⊥) →
        census_merged d es bs ≡ None
    entry_none five checked cost left f bad unlimited =
        let x = bad_entry es cost left mid f bad unlimited in
        field_refused (census_field d) census_shortens es bs mid n w tag x.0 (rw (five, checked_same n LengthDelimited w checked) x.1)

    pub skip_none : n ≢ 5 → (e : DecodeError) → skip_at d n w mid ≡ Err e → census_merged d es bs ≡ None
    skip_none other e bad = field_refused (census_field d) census_shortens es bs mid n w tag e (other_refused es mid n w e other bad)

-- what has bytes at its end isn't empty
pub has_some : (all rest : List ℕ) → IsTailOf rest all → 0 < length rest → all ≢ []
has_some all rest tail some is = absurd (omega (arith, some, tail_shorter all rest tail, ap length is))

-- what follows an entry is an end of the bytes
pub tail_of_entry : (d : ℕ) (bs e : List ℕ) (s : MapEntry (List ℕ) ℤ) (rest : List ℕ) → EntryOf text_reading int32_reading d bs e s rest → IsTailOf rest bs
tail_of_entry d bs e s rest ((t, v, is), entry) = tail_behind (t ++ e) rest bs (is ∙ sym (append_assoc t e rest))
