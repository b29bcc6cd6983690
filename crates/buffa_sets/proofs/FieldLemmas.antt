-- One field of a MessageSet, as a call reads it with a budget of its own.
use Rattle.std.proofs.Common.{◌≡◌, ◌≢◌, ◌⊎◌, inl, inr, ℕ, zero, suc, ◌+◌, ◌-◌, ◌==◌, Bool, true, false, List, [], ◌∷◌, ◌++◌, Result, Ok, Err, refl, sym, ap, subst, ◌∙◌, arith}
use Rattle.std.proofs.lemmas.Bool.{eqb-false, eqb-true}
use Rattle.std.specs.Prelude.{IfErr}
use Rattle.buffa_bytes.proofs.StepLemmas.{agree_err}
use Rattle.buffa_bytes.specs.declared.wire_type.WireType.{WireType}
use Rattle.buffa_bytes.specs.declared.wire_type.WireType.TheVariants.{EndGroup, StartGroup}
use Rattle.buffa_bytes.specs.declared.error.DecodeError.{DecodeError}
use Rattle.buffa_bytes.specs.declared.error.DecodeError.TheVariants.{OutOfMemory, RecursionLimitExceeded, UnknownFieldLimitExceeded}
use Rattle.buffa_wire.proofs.MessageLemmas.{NoLimit}
use Rattle.buffa_bytes.proofs.SequenceLemmas.{err_same, ok_same}
use Rattle.buffa_wire.specs.BudgetLeft.{BudgetLeft, Lacks, unknown_fields}
use Rattle.buffa_wire.specs.Message.{IsFieldMerged}
use Rattle.buffa_wire.specs.RecordReading.{field_at}
use Rattle.buffa_wire.specs.Records.{FieldData, bytes}
use Rattle.buffa_message_set.specs.Item.{item_at}
use Rattle.buffa_message_set.proofs.ItemLemmas.{both_true, read_sound}
use Rattle.buffa_message_set.proofs.GroupLemmas.{item_no_limit}
use Rattle.buffa_wire.proofs.CostLemmas.{paid}
use Rattle.buffa_wire.specs.ByField.{value_of}
use Rattle.buffa_fields.specs.UndeclaredFields.{keep_takes}
use Rattle.buffa_fields.specs.facts.UndeclaredFieldFacts.{keep_ok, none_there}
use Rattle.buffa_wire.specs.Takes.{answer, framed}
use Rattle.buffa_wire.proofs.TakesLemmas.{framed_at, framed_err}
use Rattle.buffa_wire.proofs.LoopLemmas.{field_end}
use Rattle.buffa_wire.specs.KeptField.{keep_charge}
use Rattle.buffa_bytes.specs.Readings.{skip_at}
use Rattle.buffa_sets.specs.Set.{IsSetFieldRefused, IsSetRefused, TakesSetField, item_field, item_of, record_of_field, set_cost, set_field, set_merged, set_charge, starts}
use Rattle.buffa_sets.specs.SetFacts.{set_same, set_sound, set_stays}

start_no_end : (n : ℕ) (w : WireType) → starts n w ≡ true → w ≢ EndGroup
start_no_end n w e is = let both = both_true n 1 StartGroup w e in let k = both.1 ∙ is in cc

-- ---- a field that is kept
module _ (d s n : ℕ) (w : WireType) (bs : List ℕ) where
  keeps : (x : FieldData) (left : ℕ) (rest : List ℕ) → field_at d s n w bs ≡ Ok (x, left, rest) → (v : List (ℕ × FieldData)) →
      (framed keep_takes d v n w bs ≡ Ok (v ++ (n, x) ∷ [], rest)) × (left + (keep_charge d n w bs).unknown ≡ s) × ((keep_charge d n w bs).memory ≡ 0)
  keeps x left rest h v =
      let t = keep_ok d s n w bs v (unknown_fields s) refl x left (v ++ (n, x) ∷ []) (unknown_fields left) rest h refl refl refl in
      (ap (framed keep_takes d v n w) t.2 ∙ framed_at keep_takes d v n w t.0 rest t.1 ∙ ap (answer rest) t.3, omega (arith, t.4.0), omega (arith, t.4.1))

  keeps_no : (v : List (ℕ × FieldData)) (left : BudgetLeft) (e : DecodeError) → left.unknown ≡ s → field_at d s n w bs ≡ Err e →
      Lacks left (keep_charge d n w bs) ⊎ ((x : DecodeError) × (framed keep_takes d v n w bs ≡ Err x) × NoLimit e)
  keeps_no v left e same h = elim (none_there d s n w bs v left (sym same) e h) [
    | inl few ↦ inl few
    | inr bad ↦ inr (let u = framed_err keep_takes d v n w bs e bad.1 bad.0 (skip_at d n w bs) refl in u)
  ]

  read_not_at_end : (x : FieldData × ℕ × List ℕ) → field_at d s n w bs ≡ Ok x → w ≢ EndGroup
  read_not_at_end x h is = let k = sym (field_end d s n w bs is) ∙ h in cc

-- ---- what it means for the records that there are

-- r is put behind the others, and of s unknown fields left so many are left then
abbrev Takes : ℕ → ℕ → ℕ → WireType → List ℕ → ℕ × FieldData → ℕ → List ℕ → List (ℕ × FieldData) → Type 0
Takes d s n w bs r left rest v =
    (set_field d v n w bs ≡ Ok (v ++ r ∷ [], rest)) × (left + (set_charge d n w bs).unknown ≡ s) × ((set_charge d n w bs).memory ≡ 0)

-- the field means nothing, or its cost isn't left
abbrev Refuses : ℕ → ℕ → WireType → List ℕ → List (ℕ × FieldData) → BudgetLeft → DecodeError → Type 0
Refuses d n w bs v left e = Lacks left (set_charge d n w bs) ⊎ ((x : DecodeError) × (set_field d v n w bs ≡ Err x) × NoLimit e)

module _ (s : ℕ) (bs : List ℕ) where
  item_takes : (d : ℕ) (r : ℕ × FieldData) (left : ℕ) (rest : List ℕ) (v : List (ℕ × FieldData)) (z : Bool) (q : Result (ℕ × List ℕ × List ℕ) DecodeError) → (s == 0) ≡ z → item_at d bs ≡ q →
      item_of (suc d) s bs ≡ Ok (r, left, rest) → (item_field (suc d) v bs ≡ Ok (v ++ r ∷ [], rest)) × (left + 1 ≡ s)
  item_takes d r left rest v true q e is h =
      let k : item_of (suc d) s bs ≡ Err UnknownFieldLimitExceeded = rw e refl in
      let bad = sym k ∙ h in cc
  item_takes d r left rest v false (Err f) e is h =
      let k : item_of (suc d) s bs ≡ Err f = rw (e, is) refl in
      let bad = sym k ∙ h in cc
  item_takes d r left rest v false (Ok x) e is h =
      let k : item_of (suc d) s bs ≡ Ok ((x.0, bytes x.1), s - 1, x.2) = rw (e, is) refl in
      let same = ok_same (sym k ∙ h) in
      let put : item_field (suc d) v bs ≡ Ok (v ++ (x.0, bytes x.1) ∷ [], x.2) = rw is refl in
      let some = eqb-false s 0 e in
      let fewer : s - 1 ≡ left = ap (λ z. z.1) same in
      (put ∙ ap (λ z. Ok (v ++ z.0 ∷ [], z.2)) same, omega (arith, fewer, some))

  item_refuses : (d : ℕ) (v : List (ℕ × FieldData)) (left : BudgetLeft) (e : DecodeError) (z : Bool) (q : Result (ℕ × List ℕ × List ℕ) DecodeError) → (s == 0) ≡ z → item_at d bs ≡ q → left.unknown ≡ s →
      item_of (suc d) s bs ≡ Err e → Lacks left (unknown_fields 1) ⊎ ((x : DecodeError) × (item_field (suc d) v bs ≡ Err x) × NoLimit e)
  item_refuses d v left e true q none is same h = inl (inl (omega (arith, eqb-true s 0 none, same)))
  item_refuses d v left e false (Ok x) some is same h =
      let k : item_of (suc d) s bs ≡ Ok ((x.0, bytes x.1), s - 1, x.2) = rw (some, is) refl in
      let bad = sym k ∙ h in cc
  item_refuses d v left e false (Err f) some is same h =
      let k : item_of (suc d) s bs ≡ Err f = rw (some, is) refl in
      let one : f ≡ e = err_same (sym k ∙ h) in
      let bad : item_field (suc d) v bs ≡ Err f = rw is refl in
      inr (f, bad, subst (λ z. NoLimit z) one (item_no_limit d bs f (agree_err (item_at d bs) f (read_sound d bs) is)))

  any_item_takes : (d : ℕ) (r : ℕ × FieldData) (left : ℕ) (rest : List ℕ) (v : List (ℕ × FieldData)) → item_of d s bs ≡ Ok (r, left, rest) → (item_field d v bs ≡ Ok (v ++ r ∷ [], rest)) × (left + 1 ≡ s)
  any_item_takes zero r left rest v h = cc
  any_item_takes (suc d) r left rest v h = item_takes d r left rest v (s == 0) (item_at d bs) refl refl h

  any_item_refuses : (d : ℕ) (v : List (ℕ × FieldData)) (left : BudgetLeft) (e : DecodeError) → left.unknown ≡ s → item_of d s bs ≡ Err e → Lacks left (unknown_fields 1) ⊎ ((x : DecodeError) × (item_field d v bs ≡ Err x) × NoLimit e)
  any_item_refuses zero v left e same h = inr (RecursionLimitExceeded, refl, subst (λ z. NoLimit z) (err_same h) (λ l. l))
  any_item_refuses (suc d) v left e same h = item_refuses d v left e (s == 0) (item_at d bs) refl refl same h

module _ (d s n : ℕ) (w : WireType) (bs : List ℕ) where
  as_item : starts n w ≡ true → record_of_field d s n w bs ≡ item_of d s bs
  as_item is_start = rw is_start refl

  other_takes : (r : ℕ × FieldData) (left : ℕ) (rest : List ℕ) (v : List (ℕ × FieldData)) (q : Result (FieldData × ℕ × List ℕ) DecodeError) → field_at d s n w bs ≡ q → starts n w ≡ false →
      record_of_field d s n w bs ≡ Ok (r, left, rest) → Takes d s n w bs r left rest v
  other_takes r left rest v (Err f) is differs h = let k : record_of_field d s n w bs ≡ Err f = rw (differs, is) refl in let bad = sym k ∙ h in cc
  other_takes r left rest v (Ok x) is differs h =
      let k : record_of_field d s n w bs ≡ Ok ((n, x.0), x.1, x.2) = rw (differs, is) refl in
      let same = ok_same (sym k ∙ h) in
      let t = keeps d s n w bs x.0 x.1 x.2 is v in
      let fewer : x.1 ≡ left = ap (λ z. z.1) same in
      rw differs (t.0 ∙ ap (λ z. Ok (v ++ z.0 ∷ [], z.2)) same, omega (arith, t.1, fewer), t.2)

  other_refuses : (v : List (ℕ × FieldData)) (left : BudgetLeft) (e : DecodeError) (q : Result (FieldData × ℕ × List ℕ) DecodeError) → field_at d s n w bs ≡ q → starts n w ≡ false → left.unknown ≡ s →
      record_of_field d s n w bs ≡ Err e → Refuses d n w bs v left e
  other_refuses v left e (Ok x) is differs same h = let k : record_of_field d s n w bs ≡ Ok ((n, x.0), x.1, x.2) = rw (differs, is) refl in let bad = sym k ∙ h in cc
  other_refuses v left e (Err f) is differs same h =
      let k : record_of_field d s n w bs ≡ Err f = rw (differs, is) refl in
      let one : f ≡ e = err_same (sym k ∙ h) in
      rw differs (keeps_no d s n w bs v left e same (is ∙ ap (λ z. Err z) one))

  takes_by : (b : Bool) → starts n w ≡ b → (r : ℕ × FieldData) (left : ℕ) (rest : List ℕ) (v : List (ℕ × FieldData)) → record_of_field d s n w bs ≡ Ok (r, left, rest) → Takes d s n w bs r left rest v
  takes_by true is_start r left rest v h = let t = any_item_takes s bs d r left rest v (sym (as_item is_start) ∙ h) in rw is_start (t.0, t.1, refl)
  takes_by false differs r left rest v h = other_takes r left rest v (field_at d s n w bs) refl differs h

  refuses_by : (b : Bool) → starts n w ≡ b → (v : List (ℕ × FieldData)) (left : BudgetLeft) (e : DecodeError) → left.unknown ≡ s → record_of_field d s n w bs ≡ Err e → Refuses d n w bs v left e
  refuses_by true is_start v left e same h = rw is_start (any_item_refuses s bs d v left e same (sym (as_item is_start) ∙ h))
  refuses_by false differs v left e same h = other_refuses v left e (field_at d s n w bs) refl differs same h

  not_at_end_by : (b : Bool) → starts n w ≡ b → (q : Result (FieldData × ℕ × List ℕ) DecodeError) → field_at d s n w bs ≡ q → (x : (ℕ × FieldData) × ℕ × List ℕ) → record_of_field d s n w bs ≡ Ok x → w ≢ EndGroup
  not_at_end_by true is_start q is x h = start_no_end n w is_start
  not_at_end_by false differs (Ok y) is x h = read_not_at_end d s n w bs y is
  not_at_end_by false differs (Err f) is x h = let k : record_of_field d s n w bs ≡ Err f = rw (differs, is) refl in let bad = sym k ∙ h in cc

  -- a record that was read is no end tag
  pub record_no_end : (x : (ℕ × FieldData) × ℕ × List ℕ) → record_of_field d s n w bs ≡ Ok x → w ≢ EndGroup
  record_no_end x h = not_at_end_by (starts n w) refl (field_at d s n w bs) refl x h

refusal : (d n : ℕ) (w : WireType) (bs : List ℕ) (v : List (ℕ × FieldData)) (left : BudgetLeft) (e : DecodeError) → Refuses d n w bs v left e → record_of_field d left.unknown n w bs ≡ Err e → IsSetFieldRefused d v n w bs left e
refusal d n w bs v left e (inl few) read = (inl few, read)
refusal d n w bs v left e (inr (x, bad, limit)) read = (inr (ap value_of bad, limit), read)

abbrev well : Result (Unit {0}) DecodeError
well = Ok tt

-- ---- the contract of merging a field that was read
module _ (d n : ℕ) (w : WireType) (bs rest : List ℕ) (v : List (ℕ × FieldData)) where
  abbrev IsMergedField : Result (Unit {0}) DecodeError → List (ℕ × FieldData) → BudgetLeft → BudgetLeft → Type 0
  IsMergedField r new before after = IsFieldMerged set_merged set_cost d v n w bs before r new after rest × TakesSetField d v n w bs before r new after rest

  pub set_err : (r : Result (Unit {0}) DecodeError) (e f : DecodeError) → r ≡ Err f → f ≡ e → (left : BudgetLeft) (s : ℕ) → s ≡ left.unknown → (e ≢ OutOfMemory → record_of_field d s n w bs ≡ Err e) → IsMergedField r v left left
  set_err r e f is same left s all h =
      let bad : Result (Unit {0}) DecodeError = Err e in
      let why : e ≢ OutOfMemory → Refuses d n w bs v left e = λ ne. refuses_by d s n w bs (starts n w) refl v left e (sym all) (h ne) in
      let merged : IsFieldMerged set_merged set_cost d v n w bs left bad v left rest =
      paid (set_charge d) d (set_stays d) (set_field d) (set_sound d) (set_same d) bad v v n w bs rest left left ((omega arith, omega arith, omega arith, omega arith), why) in
      subst (λ z. IsMergedField z v left left) (sym (is ∙ ap (λ x. Err x) same)) (merged, (refl, refl, λ ne. refusal d n w bs v left e (why ne) (subst (λ k. record_of_field d k n w bs ≡ Err e) all (h ne))))

  -- what stands of a refused one
  pub set_refused : (new : List (ℕ × FieldData)) (before after : BudgetLeft) (r : Result (Unit {0}) DecodeError) → TakesSetField d v n w bs before r new after rest → IfErr r (λ e. IsSetRefused d v n w bs before e new)
  set_refused new before after (Ok x) h = tt
  set_refused new before after (Err e) h = (h.0, h.2)

  pub set_ok : (r : ℕ × FieldData) (unknown_left : ℕ) (new : List (ℕ × FieldData)) (before after : BudgetLeft) (s : ℕ) → s ≡ before.unknown → record_of_field d s n w bs ≡ Ok (r, unknown_left, rest) → new ≡ v ++ r ∷ [] →
      after.unknown ≡ unknown_left → after.memory ≡ before.memory → IsMergedField well new before after
  set_ok r unknown_left new before after s all h is u m =
      let k = takes_by d s n w bs (starts n w) refl r unknown_left rest v h in
      let takes : set_field d v n w bs ≡ Ok (new, rest) = k.0 ∙ ap (λ z. Ok (z, rest)) (sym is) in
      let unknown : after.unknown + (set_charge d n w bs).unknown ≡ before.unknown = omega (arith, u, k.1, all) in
      let memory : after.memory + (set_charge d n w bs).memory ≡ before.memory = omega (arith, m, k.2) in
      (paid (set_charge d) d (set_stays d) (set_field d) (set_sound d) (set_same d) well v new n w bs rest before after (takes, (unknown, memory)), (takes, (unknown, memory)))
