-- What a message owes follows from what payloads make of it.
use Rattle.std.proofs.Common.{◌≡◌, ◌≢◌, inl, inr, ℕ, ◌+◌, ◌<◌, List, [], ◌++◌, length, Option, Some, None, Result, Ok, Err, refl, sym, ap, subst, ◌∙◌, arith, append_assoc}
use Rattle.std.specs.Option.{option_and_then}
use Rattle.buffa_bytes.specs.declared.wire_type.WireType.{WireType}
use Rattle.buffa_bytes.specs.declared.error.DecodeError.{DecodeError}
use Rattle.buffa_bytes.specs.declared.error.DecodeError.TheVariants as error
use Rattle.buffa_bytes.specs.Field.{IsTag, Payload, PayloadFault, SomeField}
use Rattle.buffa_bytes.specs.Join.{Join}
use Rattle.buffa_bytes.specs.Join.Join.{none, more}
use Rattle.buffa_bytes.specs.Readings.{skip_at, tag_at}
use Rattle.buffa_bytes.proofs.StepLemmas.{agree_err, agree_ok}
use Rattle.buffa_bytes.proofs.FieldLemmas.{payload_complete, payload_sound, tag_complete, tag_sound}
use Rattle.buffa_wire.specs.BudgetLeft.{BudgetLeft, PaysAtMost, nothing, plus}
use Rattle.buffa_wire.specs.Message.{IsFieldMerged, IsJudged, MergeFault}
use Rattle.buffa_wire.specs.Takes.{IsTaken, Charge, Stays, Taker, cost_of, merged_of}
use Rattle.buffa_wire.proofs.MessageLemmas.{tag_no_limit}
use Rattle.buffa_wire.proofs.TakesLemmas.{cost_of_next, cost_of_no_payload, cost_of_none, merged_of_fields, merged_of_next, merged_of_none, taken_merges}

-- what bytes make of a value, and what they cost, is what payloads do
pub record ByPayload {X : Type 0} (takes : Taker X) (charge : Charge) (merged : ℕ → X → List ℕ → Option X) (cost : ℕ → List ℕ → BudgetLeft) : Type 0 where
  pub stays : Stays charge
  pub merged_is : (d : ℕ) (v : X) (b : List ℕ) → merged d v b ≡ merged_of takes d v b
  pub cost_is : (d : ℕ) (b : List ℕ) → cost d b ≡ cost_of charge d b

pub by_payload : {X : Type 0} {takes : Taker X} {charge : Charge} {merged : ℕ → X → List ℕ → Option X} {cost : ℕ → List ℕ → BudgetLeft} → Stays charge →
    ((d : ℕ) (v : X) (b : List ℕ) → merged d v b ≡ merged_of takes d v b) → ((d : ℕ) (b : List ℕ) → cost d b ≡ cost_of charge d b) → ByPayload takes charge merged cost
by_payload stays merged_is cost_is = record { stays = stays; merged_is = merged_is; cost_is = cost_is }

pub plainly : {X : Type 0} (takes : Taker X) (charge : Charge) → Stays charge → ByPayload takes charge (merged_of takes) (cost_of charge)
plainly takes charge stays = record { stays = stays; merged_is = λ d v b. refl; cost_is = λ d b. refl }

pub nothing_plus : (c : BudgetLeft) → plus nothing c ≡ c
nothing_plus c =
    let u : 0 + c.unknown ≡ c.unknown = omega arith in
    let m : 0 + c.memory ≡ c.memory = omega arith in
    λ i. record { unknown = u i; memory = m i }

pub plus_assoc : (a b c : BudgetLeft) → plus a (plus b c) ≡ plus (plus a b) c
plus_assoc a b c =
    let u : a.unknown + (b.unknown + c.unknown) ≡ (a.unknown + b.unknown) + c.unknown = omega arith in
    let m : a.memory + (b.memory + c.memory) ≡ (a.memory + b.memory) + c.memory = omega arith in
    λ i. record { unknown = u i; memory = m i }

join_front : {P : List ℕ → Type 0} (b : List ℕ) → Join P b → 0 < length b → (f : List ℕ) × (r : List ℕ) × P f × (b ≡ f ++ r)
join_front _ none h = absurd (omega (arith, h))
join_front _ (more f r one k) h = (f, r, one, refl)

-- bytes that a field begins have a tag
tagged : (d : ℕ) (bs f r : List ℕ) (e : DecodeError) → SomeField d f → bs ≡ f ++ r → tag_at bs ≡ Err e → ⊥
tagged d bs f r e (n, w, (t, p, is_tag, payload, is)) split h =
    let q : tag_at bs ≡ Ok (n, w, p ++ r) = ap tag_at (split ∙ ap (λ z. z ++ r) is ∙ append_assoc t p r) ∙ tag_complete t n w (p ++ r) is_tag in
    let k = sym q ∙ h in cc

module _ {X : Type 0} {takes : Taker X} {charge : Charge} {merged : ℕ → X → List ℕ → Option X} {cost : ℕ → List ℕ → BudgetLeft} (by : ByPayload takes charge merged cost) where
  -- no bytes change nothing, and cost nothing
  pub merged_empty : (d : ℕ) (v : X) → merged d v [] ≡ Some v
  merged_empty d v = by.merged_is d v [] ∙ merged_of_none takes d v

  pub cost_empty : (d : ℕ) → cost d [] ≡ nothing
  cost_empty d = by.cost_is d [] ∙ cost_of_none charge d

  -- what is merged is a join of fields
  pub merged_fields : (d : ℕ) (v w : X) (b : List ℕ) → merged d v b ≡ Some w → Join (SomeField d) b
  merged_fields d v w b h = merged_of_fields takes d v w b (sym (by.merged_is d v b) ∙ h)

  pub merged_none : (d : ℕ) (v : X) (b : List ℕ) (o : Option X) → merged d v b ≡ o → (Join (SomeField d) b → ⊥) → o ≡ None
  merged_none d v b None is never = refl
  merged_none d v b (Some w) is never = absurd (never (merged_fields d v w b is))

  -- a field, and then what follows it
  pub merged_next : (d : ℕ) (v : X) (f r : List ℕ) → SomeField d f → merged d v (f ++ r) ≡ option_and_then (λ w. merged d w r) (merged d v f)
  merged_next d v f r h = by.merged_is d v (f ++ r) ∙ merged_of_next takes d v f r h ∙ (λ i. option_and_then (λ w. sym (by.merged_is d w r) i) (sym (by.merged_is d v f) i))

  -- costs add over fields
  pub cost_next : (d : ℕ) (f r : List ℕ) → SomeField d f → cost d (f ++ r) ≡ plus (cost d f) (cost d r)
  cost_next d f r h = by.cost_is d (f ++ r) ∙ cost_of_next charge by.stays d f r h ∙ (λ i. plus (sym (by.cost_is d f) i) (sym (by.cost_is d r) i))

  -- what a tag begins, and is no field
  pub costs_no_payload : (d n : ℕ) (w : WireType) (t bs : List ℕ) (e : DecodeError) → IsTag t n w → PayloadFault d n w bs e → cost d (t ++ bs) ≡ charge d n w bs
  costs_no_payload d n w t bs e tag h = by.cost_is d (t ++ bs) ∙ cost_of_no_payload charge d t bs n w e tag h

  -- fields, and then what follows them
  pub merged_join : (d : ℕ) (f r : List ℕ) → Join (SomeField d) f → (v : X) → merged d v (f ++ r) ≡ option_and_then (λ w. merged d w r) (merged d v f)
  merged_join d _ r none v = sym (ap (option_and_then (λ w. merged d w r)) (merged_empty d v))
  merged_join d _ r (more g h a j) v =
      ap (merged d v) (append_assoc g h r) ∙ merged_next d v g (h ++ r) a ∙ through (merged d v g) (merged_join d h r j)
      ∙ sym (ap (option_and_then (λ w. merged d w r)) (merged_next d v g h a))
    where
      through : (o : Option X) → ((w : X) → merged d w (h ++ r) ≡ option_and_then (λ z. merged d z r) (merged d w h)) →
          option_and_then (λ w. merged d w (h ++ r)) o ≡ option_and_then (λ w. merged d w r) (option_and_then (λ w. merged d w h) o)
      through None again = refl
      through (Some w) again = again w

  pub cost_join : (d : ℕ) (f r : List ℕ) → Join (SomeField d) f → cost d (f ++ r) ≡ plus (cost d f) (cost d r)
  cost_join d _ r none = sym (ap (λ z. plus z (cost d r)) (cost_empty d) ∙ nothing_plus (cost d r))
  cost_join d _ r (more g h a j) =
      ap (cost d) (append_assoc g h r) ∙ cost_next d g (h ++ r) a ∙ ap (plus (cost d g)) (cost_join d h r j)
      ∙ plus_assoc (cost d g) (cost d h) (cost d r) ∙ sym (ap (λ z. plus z (cost d r)) (cost_next d g h a))

  -- one field, taken by its payload
  pub merges_taken : (r : Result (Unit {0}) DecodeError) (d : ℕ) (old new : X) (n : ℕ) (w : WireType) (bs rest : List ℕ) (before after : BudgetLeft) →
      IsTaken takes charge d old n w bs before r new after rest → IsFieldMerged merged cost d old n w bs before r new after rest
  merges_taken r d old new n w bs rest before after h =
      subst (λ z. IsFieldMerged z cost d old n w bs before r new after rest) (λ i d v b. sym (by.merged_is d v b) i)
      (subst (λ z. IsFieldMerged (merged_of takes) z d old n w bs before r new after rest) (λ i d b. sym (by.cost_is d b) i)
      (taken_merges takes d charge by.stays r old new n w bs rest before after h))

  no_value : (d : ℕ) (v : X) (bs : List ℕ) (e : DecodeError) (o : Option X) → merged d v bs ≡ o → 0 < length bs → tag_at bs ≡ Err e → o ≡ None
  no_value d v bs e None is some h = refl
  no_value d v bs e (Some w) is some h = let j = join_front bs (merged_fields d v w bs is) some in absurd (tagged d bs j.0 j.1 e j.2 j.3 h)

  -- no tag begins what is left
  pub untagged : (d : ℕ) (v : X) (bs : List ℕ) (left : BudgetLeft) (e : DecodeError) → 0 < length bs → tag_at bs ≡ Err e → MergeFault (merged d v bs) (cost d bs) left e
  untagged d v bs left e some h = inr (no_value d v bs e (merged d v bs) refl some h, tag_no_limit bs e (agree_err (tag_at bs) e (tag_sound bs) h))

  pub field_costs : (d : ℕ) (bs t p x : List ℕ) (n : ℕ) (w : WireType) → IsTag t n w → Payload d n w p → bs ≡ t ++ (p ++ x) → cost d bs ≡ plus (cost d (t ++ p)) (cost d x)
  field_costs d bs t p x n w tag payload is = ap (cost d) (is ∙ sym (append_assoc t p x)) ∙ cost_next d (t ++ p) x (n, w, (t, p, tag, payload, refl))

  -- why a field isn't merged is why the bytes that it begins aren't
  module _ (d : ℕ) (v : X) (n : ℕ) (w : WireType) (bs : List ℕ) (left over : BudgetLeft) (e : DecodeError) where
    abbrev Refuses : List ℕ → Type 0
    Refuses b = PaysAtMost left (cost d b) over × (e ≢ error.OutOfMemory → MergeFault (merged d v b) (cost d b) left e)

    abbrev Judges : Type 0
    Judges = (t p : List ℕ) → IsTag t n w → IsJudged d n w bs p → Refuses (t ++ p)

    with_rest : (t p x : List ℕ) → IsTag t n w → Payload d n w p → Refuses (t ++ p) → Refuses (t ++ (p ++ x))
    with_rest t p x tag payload (spent, why) =
        let all : cost d (t ++ (p ++ x)) ≡ plus (cost d (t ++ p)) (cost d x) = field_costs d (t ++ (p ++ x)) t p x n w tag payload refl in
        let unknown = ap (λ (z : BudgetLeft). z.unknown) all in
        let memory = ap (λ (z : BudgetLeft). z.memory) all in (
          (spent.0, omega (arith, spent.1, unknown), spent.2, omega (arith, spent.3, memory)),
          λ ne. elim (why ne) [
            | inl few ↦ inl (elim few [ inl k ↦ inl (omega (arith, k, unknown)) | inr k ↦ inr (omega (arith, k, memory)) ])
            | inr bad ↦ inr (
              ap (merged d v) (sym (append_assoc t p x)) ∙ merged_next d v (t ++ p) x (n, w, (t, p, tag, payload, refl)) ∙ ap (option_and_then (λ z. merged d z x)) bad.0,
              bad.1,
            )
          ],
        )

    judged_by : (r : Result (List ℕ) DecodeError) → skip_at d n w bs ≡ r → Judges → (t : List ℕ) → IsTag t n w → Refuses (t ++ bs)
    judged_by (Ok rest) is judges t tag =
        let u = agree_ok (skip_at d n w bs) rest (payload_sound d n w bs) is in
        subst (λ z. Refuses (t ++ z)) (sym u.2) (with_rest t u.0 rest tag u.1 (judges t u.0 tag (inl (rest, u.1, u.2))))
    judged_by (Err f) is judges t tag =
        judges t bs tag (inr (refl, λ rest u. let k = sym (ap (skip_at d n w) u.2 ∙ payload_complete d n w u.0 rest u.1) ∙ is in cc))

    pub judged_all : Judges → (t : List ℕ) → IsTag t n w → Refuses (t ++ bs)
    judged_all judges t tag = judged_by (skip_at d n w bs) refl judges t tag
