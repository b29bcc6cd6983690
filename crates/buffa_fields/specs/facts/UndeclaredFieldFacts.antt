-- What is proved of fields that a message doesn't declare and keeps.
use Rattle.std.proofs.Common.{◌≡◌, ◌≢◌, ◌⊎◌, inl, inr, ℕ, ◌+◌, ◌<◌, List, [], ◌∷◌, ◌++◌, Some, Result, Ok, Err, refl, ap, sym, subst, ◌∙◌, arith, append_assoc, append-nil}
use Rattle.buffa_bytes.proofs.FieldLemmas.{ok_there}
use Rattle.buffa_bytes.proofs.StepLemmas.{agree_err, agree_ok}
use Rattle.buffa_bytes.specs.Field.{Group, PayloadOver}
use Rattle.buffa_bytes.specs.Unread.{past_no_payload, IsTailOf}
use Rattle.buffa_bytes.specs.declared.wire_type.WireType.{WireType}
use Rattle.buffa_bytes.specs.declared.wire_type.WireType.TheVariants as wire
use Rattle.buffa_bytes.specs.declared.error.DecodeError.{DecodeError}
use Rattle.buffa_bytes.specs.declared.error.DecodeError.TheVariants as error
use Rattle.buffa_wire.proofs.LoopLemmas.{field_is_read, field_taken}
use Rattle.buffa_wire.proofs.MessageLemmas.{NoLimit}
use Rattle.buffa_wire.specs.BudgetLeft.{BudgetLeft, Lacks, unknown_fields}
use Rattle.buffa_wire.specs.Parse.{IsPayload, Parse, fields_inside}
use Rattle.buffa_wire.specs.RecordReading.{RecordTakesMemory, field_at}
use Rattle.buffa_wire.specs.Records.{FieldData, records_of}
use Rattle.buffa_wire.specs.Encoding.{wire_of}
use Rattle.std.specs.Prelude.{Bool, true}
use Rattle.buffa_wire.proofs.KeepLemmas.{all_fields, enough_reads, enough_unknown, charged_for, other_limit}
use Rattle.buffa_wire.proofs.JoinLemmas.{payload_of_record, record_of_payload}
use Rattle.buffa_wire.specs.KeptField.{keep_charge}
use Rattle.buffa_fields.specs.UndeclaredFields.{IsFieldThere, KeepTakesMemory, keep_takes}
use Rattle.buffa_wire.specs.Takes.{IsTaken, Leads, Piece, Taker, Untaken, joined_fields}
use Rattle.buffa_bytes.proofs.SequenceLemmas.{err_same}
use Rattle.buffa_wire.proofs.SpentLemmas.{is_there}
use Rattle.buffa_fields.specs.Schema.{FieldIsRefused, IsPutBehind}
use Rattle.buffa_bytes.specs.Readings.{FullOnlyIf}
use Rattle.std.proofs.lemmas.Bool.{cases_lt}
use Rattle.std.specs.List.{AllByRecursion}

-- ---- a payload makes a record
takes_record : (d n : ℕ) (w : WireType) (p : List ℕ) (x : FieldData) → IsPayload d n x p → wire_of x ≡ w → (v : List (ℕ × FieldData)) → keep_takes d v n w p ≡ Some (v ++ (n, x) ∷ [])
takes_record d n w p x payload same v = rw (all_fields d n w p p [] x payload same (sym (append-nil p))) refl

-- ---- the encoding reads back
-- records that hold so are taken one after the other, behind those that were, by what holds them
module _ {X : Type 0} (takes : Taker X) (P : ℕ → Bool) (d : ℕ) (set : List (ℕ × FieldData) → X) (Hold : List (ℕ × FieldData) → Type 0)
    (more_hold : (y : ℕ × FieldData) (ys : List (ℕ × FieldData)) → Hold (y ∷ ys) → Hold ys) (has : (y : ℕ × FieldData) (ys : List (ℕ × FieldData)) → Hold (y ∷ ys) → P y.0 ≡ true)
    (one : (done : List (ℕ × FieldData)) (y : ℕ × FieldData) (ys : List (ℕ × FieldData)) (p : List ℕ) → Hold (y ∷ ys) → IsPayload d y.0 y.1 p → takes d (set done) y.0 (wire_of y.1) p ≡ Some (set (done ++ y ∷ []))) where
  pub records_lead : (ys done : List (ℕ × FieldData)) (b : List ℕ) → Hold ys → Parse d b (records_of ys) → (fs : List Piece) × (b ≡ joined_fields fs) × Leads takes P d (set done) fs (set (done ++ ys))
  records_lead [] done b hold h = ([], h, ap set (sym (append-nil done)))
  records_lead (y ∷ ys) done b hold (f, r, (t, p, tag, payload, is), next, all) =
      let more = records_lead ys (done ++ y ∷ []) r (more_hold y ys hold) next in
      let first : Piece = record { tag = t; number = y.0; wire = wire_of y.1; payload = p } in (
        first ∷ more.0,
        all ∙ (λ i. is i ++ more.1 i),
        (
          has y ys hold,
          tag,
          payload_of_record y.1 d y.0 p payload,
          set (done ++ y ∷ []),
          one done y ys p hold payload,
          subst (λ z. Leads takes P d (set (done ++ y ∷ [])) more.0 (set z)) (append_assoc done (y ∷ []) ys) more.2,
        ),
      )

-- each is put behind those that are kept
pub keep_again : (d : ℕ) (ys : List (ℕ × FieldData)) → AllByRecursion (IsPutBehind keep_takes (λ v rs. v ++ rs) d) ys
keep_again d [] = tt
keep_again d (y ∷ ys) = (λ v p payload. takes_record d y.0 (wire_of y.1) p y.1 payload refl v, keep_again d ys)

-- ---- an end tag takes no memory
pub takes_no_end : (d s : ℕ) (w : WireType) (bs : List ℕ) → RecordTakesMemory d s w bs → w ≢ wire.EndGroup
takes_no_end d s w bs h end = (subst (λ z. RecordTakesMemory d s z bs) end h).1

-- ---- a call that reads the field with a budget of its own
module _ (d s n : ℕ) (w : WireType) (bs : List ℕ) (v : List (ℕ × FieldData)) (before : BudgetLeft) (all : s ≡ before.unknown) where
  pub keep_ok : (x : FieldData) (left : ℕ) (new : List (ℕ × FieldData)) (after : BudgetLeft) (rest : List ℕ) → field_at d s n w bs ≡ Ok (x, left, rest) → new ≡ v ++ (n, x) ∷ [] → after.unknown ≡ left → after.memory ≡ before.memory →
      IsTaken keep_takes keep_charge d v n w bs before (let r : Result (Unit {0}) DecodeError = Ok tt in r) new after rest
  keep_ok x left new after rest h is u m =
      let k = agree_ok (field_at d s n w bs) (x, left, rest) (field_is_read d s n w bs) h in
      let charge = charged_for d n w bs k.0 rest x k.1 k.2 k.4 in (
        k.0,
        subst (λ z. PayloadOver (Group d) n z k.0) k.2 (payload_of_record x d n k.0 k.1),
        k.4,
        takes_record d n w k.0 x k.1 k.2 v ∙ ap (λ z. Some z) (sym is),
        (omega (arith, u, ap (λ z. z.unknown) charge, k.3, all), omega (arith, m, ap (λ z. z.memory) charge)),
      )

  -- what is refused lacks its need; or it has it, and there is no field, and no limit is told
  pub none_there : (e : DecodeError) → field_at d s n w bs ≡ Err e → Lacks before (keep_charge d n w bs) ⊎ (Untaken keep_takes d v n w bs × NoLimit e)
  none_there e h = elim (cases_lt s (keep_charge d n w bs).unknown) [
    | inl few ↦ inl (inl (omega (arith, few, all)))
    | inr many ↦ inr (
      (λ p rest payload split.
          let r = record_of_payload d n w p payload in
          let charge = charged_for d n w bs p rest r.0 r.1 r.2 split in
          let there = enough_unknown d s n w bs p rest r.0 r.1 r.2 split (omega (arith, many, ap (λ z. z.unknown) charge)) in
          let bad = sym h ∙ there in cc),
      other_limit d s n w bs e (agree_err (field_at d s n w bs) e (field_is_read d s n w bs) h) (λ same. enough_reads d n w bs s many (h ∙ ap (λ z. Err z) same)),
    )
  ]

  pub keep_err : (e : DecodeError) (rest : List ℕ) → (e ≢ error.OutOfMemory → field_at d s n w bs ≡ Err e) → (e ≡ error.OutOfMemory → w ≢ wire.EndGroup) → IsTaken keep_takes keep_charge d v n w bs before (let r : Result (Unit {0}) DecodeError = Err e in r) v before rest
  keep_err e rest h full = ((omega arith, omega arith, omega arith, omega arith), λ ne. none_there e (h ne), full)

  -- memory ran out behind a field that was read
  pub keep_full : (x : FieldData) (left : ℕ) (after rest : List ℕ) → field_at d s n w bs ≡ Ok (x, left, after) → IsTaken keep_takes keep_charge d v n w bs before (let r : Result (Unit {0}) DecodeError = Err error.OutOfMemory in r) v before rest
  keep_full x left after rest h =
      let k = agree_ok (field_at d s n w bs) (x, left, after) (field_is_read d s n w bs) h in
      keep_err error.OutOfMemory rest (λ ne. absurd (ne refl)) (λ no end. subst (λ z. PayloadOver (Group d) n z k.0) (k.2 ∙ end) (payload_of_record x d n k.0 k.1))

  -- where it takes memory
  pub keep_asks : (r : Result (Unit {0}) DecodeError) (e f : DecodeError) → r ≡ Err f → f ≡ e → (e ≡ error.OutOfMemory → RecordTakesMemory d s w bs) → FullOnlyIf r (KeepTakesMemory before.unknown d n w bs)
  keep_asks r e f is same full =
      subst (λ z. FullOnlyIf z (KeepTakesMemory before.unknown d n w bs)) (sym (is ∙ ap (λ x. Err x) same)) (λ reported. subst (λ k. KeepTakesMemory k d n w bs) all (inl (full reported)))

  pub keep_asks_put : (x : FieldData × ℕ × List ℕ) → field_at d s n w bs ≡ Ok x → KeepTakesMemory before.unknown d n w bs
  keep_asks_put x is = subst (λ k. KeepTakesMemory k d n w bs) all (inr (is_there (field_at d s n w bs) x is))

  -- the same of an error that is passed on by `?`
  pub keep_err_as : (r : Result (Unit {0}) DecodeError) (e f : DecodeError) → r ≡ Err f → f ≡ e → (rest : List ℕ) → (e ≢ error.OutOfMemory → field_at d s n w bs ≡ Err e) → (e ≡ error.OutOfMemory → w ≢ wire.EndGroup) → IsTaken keep_takes keep_charge d v n w bs before r v before rest
  keep_err_as r e f is same rest h full = subst (λ z. IsTaken keep_takes keep_charge d v n w bs before z v before rest) (sym (is ∙ ap (λ x. Err x) same)) (keep_err e rest h full)

  -- what is told and left of a field that is refused
  pub keep_refused : (r : Result (Unit {0}) DecodeError) (e f : DecodeError) → r ≡ Err f → f ≡ e → (rest : List ℕ) → (e ≢ error.OutOfMemory → field_at d s n w bs ≡ Err e) →
      (s ≡ 0 → rest ≡ bs) → (w ≡ wire.StartGroup → d ≡ 0 → rest ≡ bs) → (w ≢ wire.StartGroup → 0 < s → (e ≢ error.OutOfMemory → rest ≡ past_no_payload w bs) × IsTailOf (past_no_payload w bs) rest) →
      (g : DecodeError) → r ≡ Err g → g ≢ error.OutOfMemory → FieldIsRefused d before.unknown n w bs g rest
  keep_refused r e f is same rest reads none level left g reported ne =
      let one : g ≡ e = err_same (sym reported ∙ is) ∙ same in
      let some : e ≢ error.OutOfMemory = λ full. ne (one ∙ full) in (
        subst (λ z. field_at d z n w bs ≡ Err g) all (reads some ∙ ap (λ z. Err z) (sym one)),
        λ no. none (all ∙ no),
        level,
        λ group there. (left group (subst (λ z. 0 < z) (sym all) there)).0 some,
      )

-- ---- in the words of the grammar
pub kept_record : (d n : ℕ) (x : FieldData) (p : List ℕ) (v : List (ℕ × FieldData)) → IsPayload d n x p → keep_takes d v n (wire_of x) p ≡ Some (v ++ (n, x) ∷ [])
kept_record d n x p v h = takes_record d n (wire_of x) p x h refl v

pub kept_costs : (d n : ℕ) (x : FieldData) (p more : List ℕ) → IsPayload d n x p → keep_charge d n (wire_of x) (p ++ more) ≡ unknown_fields (1 + fields_inside x)
kept_costs d n x p more h = charged_for d n (wire_of x) (p ++ more) p more x h refl refl

pub asks_kept : (s d n : ℕ) (w : WireType) (bs : List ℕ) → KeepTakesMemory s d n w bs → RecordTakesMemory d s w bs ⊎ IsFieldThere d s n w bs
asks_kept s d n w bs (inl h) = inl h
asks_kept s d n w bs (inr h) = let x = ok_there (field_at d s n w bs) h in inr (x.0.0, x.0.1, x.0.2, agree_ok (field_at d s n w bs) x.0 (field_is_read d s n w bs) x.1)

pub kept_asks_for : (s d n : ℕ) (w : WireType) (bs : List ℕ) → RecordTakesMemory d s w bs ⊎ IsFieldThere d s n w bs → KeepTakesMemory s d n w bs
kept_asks_for s d n w bs (inl h) = inl h
kept_asks_for s d n w bs (inr (x, left, rest, h)) = inr (is_there (field_at d s n w bs) (x, left, rest) (field_taken d s n w bs x left rest h))
