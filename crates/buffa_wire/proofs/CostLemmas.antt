-- What fields cost together follows from what each costs.
use Rattle.std.proofs.Common.{◌≡◌, ◌≢◌, ◌⊎◌, inl, inr, ℕ, ◌+◌, List, [], ◌++◌, Result, Ok, Err, refl, sym, ap, subst, ◌∙◌, arith, append_assoc, append-nil}
use Rattle.std.specs.Result.{MatchResult}
use Rattle.buffa_bytes.proofs.FieldLemmas.{payload_complete, payload_faulty, skip_falls, tag_complete, tag_falls}
use Rattle.buffa_bytes.specs.declared.wire_type.WireType.{WireType}
use Rattle.buffa_bytes.specs.declared.error.DecodeError.{DecodeError}
use Rattle.buffa_bytes.specs.declared.error.DecodeError.TheVariants.{OutOfMemory}
use Rattle.buffa_wire.proofs.MessageLemmas.{NoLimit}
use Rattle.buffa_bytes.specs.Field.{IsTag, Payload, PayloadFault, SomeField}
use Rattle.buffa_wire.specs.BudgetLeft.{BudgetLeft, Lacks, Pays, PaysAtMost, charge_by, nothing, plus, costs}
use Rattle.buffa_wire.specs.Message.{IsFieldMerged, IsJudged}
use Rattle.buffa_bytes.specs.Readings.{skip_at, tag_at}
use Rattle.buffa_bytes.specs.Scan.{step_then}
use Rattle.buffa_bytes.proofs.ScanLemmas.{Leads, Shortens, scan_keeps, scan_step}
use Rattle.buffa_wire.specs.ByField.{FieldCharge, FieldReader, cost_by, field_costs, merged_by, stateless}
use Rattle.buffa_wire.proofs.ByFieldLemmas.{IsSame, IsSound, judged, taken}

pub plus_nothing : (a : BudgetLeft) → plus a nothing ≡ a
plus_nothing a =
    let u : a.unknown + 0 ≡ a.unknown = omega arith in
    let m : a.memory + 0 ≡ a.memory = omega arith in
    λ i. record { unknown = u i; memory = m i }

module _ (charge : FieldCharge) (d : ℕ) where
  -- a field that is read takes a byte
  skipped : (bs : List ℕ) (t : ℕ × WireType × List ℕ) → tag_at bs ≡ Ok t → (r : Result (List ℕ) DecodeError) → skip_at d t.0 t.1 t.2 ≡ r
      → Shortens (costs (charge t.0 t.1 t.2) (stateless r)) bs
  skipped bs t e (Ok rest) s = omega (arith, tag_falls bs t e, skip_falls d t.0 t.1 t.2 rest s)
  skipped bs t e (Err f) s = tt

  short : (bs : List ℕ) (r : Result (ℕ × WireType × List ℕ) DecodeError) → tag_at bs ≡ r → Shortens (field_costs charge d r) bs
  short bs (Ok t) e = skipped bs t e (skip_at d t.0 t.1 t.2) refl
  short bs (Err f) e = tt

  turn : (bs : List ℕ) (r : Result (ℕ × WireType × List ℕ) DecodeError) → tag_at bs ≡ r → cost_by charge d bs ≡ step_then (λ _. cost_by charge d) (field_costs charge d r)
  unfolding cost_by
  turn bs r e =
      scan_step (λ _ rest. field_costs charge d (tag_at rest)) nothing (λ _ rest. short rest (tag_at rest) refl) tt bs
      ∙ ap (λ z. step_then (λ _. cost_by charge d) (field_costs charge d z)) e

  none_at : (r : Result (ℕ × WireType × List ℕ) DecodeError) → tag_at [] ≡ r → cost_by charge d [] ≡ nothing
  none_at (Ok t) e = absurd (omega (arith, tag_falls [] t e))
  none_at (Err f) e = turn [] (Err f) e

  pub cost_empty : cost_by charge d [] ≡ nothing
  cost_empty = none_at (tag_at []) refl

  behind : (m : BudgetLeft) (r : Result (List ℕ) DecodeError) → step_then (λ _. cost_by charge d) (costs m (stateless r)) ≡ plus m (charge_by r (cost_by charge d))
  behind m (Ok rest) = refl
  behind m (Err e) = sym (plus_nothing m)

  -- a tag, and then what follows it
  pub cost_tagged : (t bs : List ℕ) (n : ℕ) (w : WireType) → IsTag t n w → cost_by charge d (t ++ bs) ≡ plus (charge n w bs) (charge_by (skip_at d n w bs) (cost_by charge d))
  cost_tagged t bs n w tag = turn (t ++ bs) (Ok (n, w, bs)) (tag_complete t n w bs tag) ∙ behind (charge n w bs) (skip_at d n w bs)

  -- what is no field costs what its tag and wire type say, and where no tag is there nothing
  pub cost_no_tag : (bs : List ℕ) (e : DecodeError) → tag_at bs ≡ Err e → cost_by charge d bs ≡ nothing
  cost_no_tag bs e h = turn bs (Err e) h

  pub cost_no_payload : (t bs : List ℕ) (n : ℕ) (w : WireType) (e : DecodeError) → IsTag t n w → PayloadFault d n w bs e → cost_by charge d (t ++ bs) ≡ charge n w bs
  cost_no_payload t bs n w e tag h =
      cost_tagged t bs n w tag ∙ ap (λ z. plus (charge n w bs) (charge_by z (cost_by charge d))) (payload_faulty d n w bs e h) ∙ plus_nothing (charge n w bs)

  module _ (stays : (n : ℕ) (w : WireType) (p x : List ℕ) → Payload d n w p → charge n w (p ++ x) ≡ charge n w p) where
    -- a field, and then what follows it
    field_and : (t p r : List ℕ) (n : ℕ) (w : WireType) → IsTag t n w → Payload d n w p → cost_by charge d (t ++ (p ++ r)) ≡ plus (charge n w p) (cost_by charge d r)
    field_and t p r n w tag payload =
        cost_tagged t (p ++ r) n w tag
        ∙ ap (λ z. plus z (charge_by (skip_at d n w (p ++ r)) (cost_by charge d))) (stays n w p r payload)
        ∙ ap (λ z. plus (charge n w p) (charge_by z (cost_by charge d))) (payload_complete d n w p r payload)

    pub field_alone : (t p : List ℕ) (n : ℕ) (w : WireType) → IsTag t n w → Payload d n w p → cost_by charge d (t ++ p) ≡ charge n w p
    field_alone t p n w tag payload =
        ap (λ z. cost_by charge d (t ++ z)) (sym (append-nil p)) ∙ field_and t p [] n w tag payload
        ∙ ap (plus (charge n w p)) cost_empty ∙ plus_nothing (charge n w p)

    pub cost_next : (f r : List ℕ) → SomeField d f → cost_by charge d (f ++ r) ≡ plus (cost_by charge d f) (cost_by charge d r)
    cost_next f r (n, w, (t, p, tag, payload, is)) =
        ap (cost_by charge d) (ap (λ z. z ++ r) is ∙ append_assoc t p r) ∙ field_and t p r n w tag payload
        ∙ ap (λ z. plus z (cost_by charge d r)) (sym (ap (cost_by charge d) is ∙ field_alone t p n w tag payload))

    -- what a refusal speaks of costs the field, and what may follow it
    cost_judged : (t p bs : List ℕ) (n : ℕ) (w : WireType) → IsTag t n w → IsJudged d n w bs p → (after : BudgetLeft) × (cost_by charge d (t ++ p) ≡ plus (charge n w bs) after)
    cost_judged t p bs n w tag (inl (rest, payload, is)) =
        (nothing, field_alone t p n w tag payload ∙ sym (ap (charge n w) is ∙ stays n w p rest payload) ∙ sym (plus_nothing (charge n w bs)))
    cost_judged t p bs n w tag (inr (is, off)) =
        (charge_by (skip_at d n w bs) (cost_by charge d), ap (λ z. cost_by charge d (t ++ z)) is ∙ cost_tagged t bs n w tag)

    -- one field, whose tag was read, where messages cost something
    module _ {X : Type 0} (field : FieldReader X) (sound : IsSound d field) (same : IsSame d field) where
      -- the field's part of a contract
      abbrev pub IsPaid : {T : Type 0} → Result T DecodeError → X → X → ℕ → WireType → List ℕ → List ℕ → BudgetLeft → BudgetLeft → Type 0
      IsPaid r old new n w bs rest before after =
          MatchResult r
          (λ _. (field old n w bs ≡ Ok (new, rest)) × Pays before (charge n w bs) after)
          (λ e. PaysAtMost before (charge n w bs) after
          × (e ≢ OutOfMemory → Lacks before (charge n w bs) ⊎ ((x : DecodeError) × (field old n w bs ≡ Err x) × NoLimit e)))

      lacks : (a b left : BudgetLeft) → Lacks left a → Lacks left (plus a b)
      lacks a b left (inl h) = inl (omega (arith, h))
      lacks a b left (inr h) = inr (omega (arith, h))

      pub paid : (r : Result (Unit {0}) DecodeError) (old new : X) (n : ℕ) (w : WireType) (bs rest : List ℕ) (before after : BudgetLeft) → IsPaid r old new n w bs rest before after →
          IsFieldMerged (λ _. merged_by field) (λ _. cost_by charge d) d old n w bs before r new after rest
      paid (Ok x) old new n w bs rest before after (h, k) =
          let q = taken d field sound same old new n w bs rest h in
          let all : charge n w bs ≡ charge n w q.0 = ap (charge n w) q.2 ∙ stays n w q.0 rest q.1 in
          (q.0, q.1, q.2, λ t tag. (q.3 t tag, subst (λ z. Pays before z after) (all ∙ sym (field_alone t q.0 n w tag q.1)) k))
      paid (Err e) old new n w bs rest before after (h, k) = λ t p tag j.
          let cost = cost_judged t p bs n w tag j in (
            subst (λ z. PaysAtMost before z after) (sym cost.1) (h.0, omega (arith, h.1), h.2, omega (arith, h.3)),
            λ ne. elim (k ne) [
              | inl few ↦ inl (subst (λ z. Lacks before z) (sym cost.1) (lacks (charge n w bs) cost.0 before few))
              | inr bad ↦ inr (judged d field sound same old n w t tag bs p bad.0 bad.1 j, bad.2)
            ],
          )

-- ---- where fields cost nothing
abbrev free : FieldCharge
free n w bs = nothing

abbrev IsFree : Unit {0} → List ℕ → BudgetLeft → Type 0
IsFree s bs r = r ≡ nothing

free_piece : (bs : List ℕ) (r : Result (List ℕ) DecodeError) → Leads IsFree (costs nothing (stateless r)) tt bs
free_piece bs (Ok rest) = λ r q. ap (plus nothing) q
free_piece bs (Err e) = refl

free_field : (d : ℕ) (bs : List ℕ) (r : Result (ℕ × WireType × List ℕ) DecodeError) → Leads IsFree (field_costs free d r) tt bs
free_field d bs (Ok t) = free_piece bs (skip_at d t.0 t.1 t.2)
free_field d bs (Err e) = refl

pub cost_free : (d : ℕ) (bs : List ℕ) → cost_by free d bs ≡ nothing
unfolding cost_by
cost_free d bs = scan_keeps (λ _ rest. field_costs free d (tag_at rest)) nothing IsFree (λ _ rest. free_field d rest (tag_at rest)) (λ _ rest. refl) tt bs
