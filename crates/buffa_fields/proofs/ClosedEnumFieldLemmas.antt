-- What is proved of fields of closed enums that are read, put aside or refused.
use Rattle.std.proofs.Common.{◌≡◌, inl, inr, ℕ, ℤ, true, false, List, [], ◌∷◌, ◌++◌, Option, Some, None, Result, Ok, Err, refl, sym, ap, subst, ◌∙◌, arith, append-nil}
use Rattle.std.specs.Prelude.{OnErr, is_some}
use Rattle.buffa_bytes.proofs.StepLemmas.{agree_err, agree_ok}
use Rattle.buffa_bytes.proofs.VarintLemmas.{varint_complete, varint_sound}
use Rattle.buffa_bytes.specs.declared.error.DecodeError.{DecodeError}
use Rattle.buffa_bytes.specs.declared.error.DecodeError.TheVariants.{OutOfMemory}
use Rattle.buffa_bytes.specs.declared.wire_type.WireType.{WireType}
use Rattle.buffa_bytes.specs.declared.wire_type.WireType.TheVariants.{Varint}
use Rattle.buffa_bytes.proofs.FieldLemmas.{payload_sound, same_false}
use Rattle.buffa_bytes.proofs.FullLemmas.{payload_full}
use Rattle.buffa_bytes.specs.Varint.{IsVarint, TakesVarint}
use Rattle.buffa_wire.proofs.MessageLemmas.{payload_no_limit}
use Rattle.buffa_bytes.proofs.SequenceLemmas.{err_same, ok_same}
use Rattle.buffa_wire.proofs.TakesLemmas.{full_weaker}
use Rattle.buffa_bytes.specs.Readings.{check_wire, skip_at, varint_at, FullOnlyIf, ◌>>=◌}
use Rattle.buffa_bytes.specs.Values.{int32_at, int32_of}
use Rattle.buffa_wire.specs.BudgetLeft.{BudgetLeft, Lacks, Pays, PaysAtMost, unknown_fields}
use Rattle.buffa_wire.specs.Enums.{Numbers}
use Rattle.buffa_wire.specs.KeptField.{keep_charge}
use Rattle.buffa_wire.specs.Records.{varint}
use Rattle.buffa_wire.specs.Takes.{IsTaken}
use Rattle.buffa_fields.specs.UnknownsOfMembers.{Kept}
use Rattle.buffa_fields.specs.UndeclaredFields.{KeepTakesMemory, keep_takes}
use Rattle.buffa_fields.specs.Schema.{IsFieldKept}
use Rattle.buffa_fields.specs.facts.UndeclaredFieldFacts.{kept_costs, kept_record}
use Rattle.buffa_fields.specs.facts.ClosedEnumFieldFacts.{number_taken, set}
use Rattle.buffa_fields.specs.ClosedEnumFields.{KeptNumberTakesMemory, RefusesKeptNumber, kept_number_cost, kept_number_taken, number_put}
use Rattle.buffa_fields.proofs.ValueLemmas.{refused_free, wire_refused}

-- the varint that an int32 was read of
pub varint_of : (bs rest : List ℕ) (v : ℤ) → int32_at bs ≡ Ok (v, rest) → (k : ℕ) × (varint_at bs ≡ Ok (k, rest)) × (int32_of k ≡ v)
varint_of bs rest v h = at (varint_at bs) refl h
  where
    at : (r : Result (ℕ × List ℕ) DecodeError) → varint_at bs ≡ r → (r >>= (λ x. let y : ℤ × List ℕ = (int32_of x.0, x.1) in Ok y)) ≡ Ok (v, rest) → (k : ℕ) × (varint_at bs ≡ Ok (k, rest)) × (int32_of k ≡ v)
    at (Ok x) is h =
        let both : (let y : ℤ × List ℕ = (int32_of x.0, x.1) in y ≡ (v, rest)) = ok_same h in
        (x.0, is ∙ ap (λ z. Ok (x.0, z)) (ap (λ (z : ℤ × List ℕ). z.1) both), ap (λ (z : ℤ × List ℕ). z.0) both)
    at (Err f) is h = cc

pub no_varint : (bs : List ℕ) (f : DecodeError) → int32_at bs ≡ Err f → varint_at bs ≡ Err f
no_varint bs f h = at (varint_at bs) refl h
  where
    at : (r : Result (ℕ × List ℕ) DecodeError) → varint_at bs ≡ r → (r >>= (λ x. let y : ℤ × List ℕ = (int32_of x.0, x.1) in Ok y)) ≡ Err f → varint_at bs ≡ Err f
    at (Ok x) is h = cc
    at (Err g) is h = is ∙ ap (λ z. Err z) (err_same h)

-- a fault of a varint is none of a budget's, and not that memory ran out
fault_is : (d n : ℕ) (bs : List ℕ) (f : DecodeError) → varint_at bs ≡ Err f → skip_at d n Varint bs ≡ Err f
fault_is d n bs f h = rw h refl

pub fault_full : (d n : ℕ) (bs : List ℕ) (f : DecodeError) → varint_at bs ≡ Err f → f ≡ OutOfMemory → ⊥
fault_full d n bs f h full = payload_full d n Varint bs (fault_is d n bs f h ∙ ap (λ z. Err z) full)

-- what isn't there
pub not_some : {A : Type 0} (o : Option A) → ((x : A) → o ≡ Some x → ⊥) → is_some o ≡ false
not_some None h = refl
not_some (Some x) h = absurd (h x refl)

module _ (e : Numbers) (d n : ℕ) (w : WireType) (bs : List ℕ) (before : BudgetLeft) (old : Option ℤ) (kept : Kept) where
  abbrev Answer : Type 0
  Answer = Result (Unit {0}) DecodeError

  abbrev TakenTo : WireType → Answer → Option ℤ → Kept → BudgetLeft → List ℕ → Type 0
  TakenTo v r new keeps after rest = IsTaken (kept_number_taken e) (kept_number_cost e) d (old, kept) n v bs before r (new, keeps) after rest

  -- another wire type
  pub number_other : (f : DecodeError) → check_wire n Varint w ≡ Err f → TakenTo w (let r : Answer = Err f in r) old kept before bs
  number_other f reported = wire_refused (kept_number_taken e) (kept_number_cost e) d n w (old, kept) (old, kept) bs bs before before f Varint reported refl (λ other p. rw (same_false Varint w other) refl)

  -- a varint's fault
  pub number_fault : (f : DecodeError) (rest : List ℕ) → w ≡ Varint → varint_at bs ≡ Err f → TakenTo w (let r : Answer = Err f in r) old kept before rest
  number_fault f rest wire reported =
      subst (λ z. TakenTo z (let r : Answer = Err f in r) old kept before rest) (sym wire)
      (refused_free (kept_number_taken e) (kept_number_cost e) d n Varint (old, kept) (old, kept) bs rest before before f f refl
      (payload_no_limit d n Varint bs f (agree_err (skip_at d n Varint bs) f (payload_sound d n Varint bs) (fault_is d n bs f reported)))
      (fault_full d n bs f reported) refl
      (λ p rest payload split. let k = ap varint_at split ∙ varint_complete p payload.0 rest payload.1 in let bad = sym reported ∙ k in cc))

  module _ (wire : w ≡ Varint) (k : ℕ) (rest : List ℕ) (there : varint_at bs ≡ Ok (k, rest)) where
    whole : TakesVarint bs k rest
    whole = agree_ok (varint_at bs) (k, rest) (varint_sound bs) there

    -- a declared number
    pub declared_taken : e.declares (int32_of k) ≡ true → TakenTo w (let r : Answer = Ok tt in r) (Some (int32_of k)) kept before rest
    declared_taken is =
        let u = whole in
        let put : number_put e (set e) n (old, kept) k ≡ (Some (int32_of k), kept) = rw is (λ i. (Some (int32_of k), append-nil kept i)) in
        subst (λ z. TakenTo z (let r : Answer = Ok tt in r) (Some (int32_of k)) kept before rest) (sym wire)
        (u.0, (k, u.1), u.2, number_taken e d n k u.0 (old, kept) u.1 ∙ ap (λ (z : Option ℤ × Kept). Some z) put, rw (there, is) (omega arith, omega arith))

    -- the same, where it means an m
    pub declared_as : (v m : ℤ) → int32_of k ≡ v → e.declares v ≡ true → m ≡ v → TakenTo w (let r : Answer = Ok tt in r) (Some m) kept before rest
    declared_as v m same is means =
        subst (λ z. TakenTo w (let r : Answer = Ok tt in r) (Some z) kept before rest) (same ∙ sym means) (declared_taken (ap e.declares same ∙ is))

    module _ (is : e.declares (int32_of k) ≡ false) where
      put_to_unknowns : number_put e (set e) n (old, kept) k ≡ (old, kept ++ (n, varint k) ∷ [])
      put_to_unknowns = rw is refl

      -- keeping it costs as much
      cost_same : keep_charge d n Varint bs ≡ kept_number_cost e d n Varint bs
      cost_same =
          let u = whole in
          let one : kept_number_cost e d n Varint bs ≡ unknown_fields 1 = rw (there, is) refl in
          ap (keep_charge d n Varint) u.2 ∙ kept_costs d n (varint k) u.0 rest u.1 ∙ sym one

      by_unknowns : (r : Answer) (keeps : Kept) (after : BudgetLeft) (over : List ℕ) → IsTaken keep_takes keep_charge d kept n Varint bs before r keeps after over → TakenTo Varint r old keeps after over
      by_unknowns (Ok _) keeps after over (p, (m, im), split, h, pays) =
          let all : varint_at bs ≡ Ok (m, over) = ap varint_at split ∙ varint_complete p m over im in
          let both : (let y : ℕ × List ℕ = (m, over) in y ≡ (k, rest)) = ok_same (sym all ∙ there) in
          let same : m ≡ k = ap (λ (z : ℕ × List ℕ). z.0) both in
          let im_k = subst (λ z. IsVarint p z) same im in
          let kept_so : keep_takes d kept n Varint p ≡ Some (kept ++ (n, varint k) ∷ []) = kept_record d n (varint k) p kept im_k in
          let kept_is : kept ++ (n, varint k) ∷ [] ≡ keeps = let both = sym kept_so ∙ h in cc in
          (p, (m, im), split, number_taken e d n k p (old, kept) im_k ∙ ap (λ (z : Option ℤ × Kept). Some z) (put_to_unknowns ∙ (λ i. (old, kept_is i))), subst (λ z. Pays before z after) cost_same pays)
      by_unknowns (Err f) keeps after over (pays, why, full) =
          let u = whole in (
            subst (λ z. PaysAtMost before z after) cost_same pays,
            λ ne. elim (why ne) [
              | inl few ↦ inl (subst (λ z. Lacks before z) cost_same few)
              | inr refused ↦ let kept_so = kept_record d n (varint k) u.0 kept u.1 in let bad = sym (refused.0 u.0 rest (k, u.1) u.2) ∙ kept_so in cc
            ],
            full,
          )

      -- an undeclared number is kept
      pub unknowns_taken : (r : Answer) (keeps : Kept) (after : BudgetLeft) (over : List ℕ) → IsFieldKept d kept n w bs before r keeps after over → TakenTo w r old keeps after over
      unfolding IsFieldKept
      unknowns_taken r keeps after over h =
          subst (λ z. TakenTo z r old keeps after over) (sym wire) (by_unknowns r keeps after over (subst (λ z. IsTaken keep_takes keep_charge d kept n z bs before r keeps after over) wire h.0))

      pub unknowns_full : (r : Answer) (keeps : Kept) (after : BudgetLeft) (over : List ℕ) → IsFieldKept d kept n w bs before r keeps after over → FullOnlyIf r (KeptNumberTakesMemory e before.unknown d n w bs)
      unfolding IsFieldKept
      unknowns_full r keeps after over h = full_weaker (KeepTakesMemory before.unknown d n w bs) (KeptNumberTakesMemory e before.unknown d n w bs) r h.2 (λ asks. (wire, k, rest, there, is, asks))

      pub unknowns_refused : (r : Answer) (keeps : Kept) (after : BudgetLeft) (over : List ℕ) → IsFieldKept d kept n w bs before r keeps after over → (f : DecodeError) → r ≡ Err f → RefusesKeptNumber e d old n w bs before f old
      unfolding IsFieldKept
      unknowns_refused r keeps after over h f reported = (refl, λ ne. inr (inr (k, rest, there, is, (h.4 f reported ne).0)))

      pub unknowns_stays : (r : Answer) (keeps : Kept) (after : BudgetLeft) (over : List ℕ) → IsFieldKept d kept n w bs before r keeps after over → OnErr r (kept ≡ keeps)
      unfolding IsFieldKept
      unknowns_stays (Ok _) keeps after over h = tt
      unknowns_stays (Err f) keeps after over h = h.1
