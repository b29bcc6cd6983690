-- A refused merge leaves one value and one budget, memory aside.
use Rattle.std.proofs.Common.{◌≡◌, ◌≢◌, inl, inr, ℕ, List, [], ◌++◌, Option, Some, None, Ok, refl, sym, ap, subst, ◌∙◌, arith, append_assoc}
use Rattle.std.specs.Option.{option_and_then}
use Rattle.std.proofs.lemmas.List.{append_cancel_left}
use Rattle.buffa_bytes.proofs.FieldLemmas.{one_field, tag_complete}
use Rattle.buffa_bytes.specs.Field.{IsTag, Payload, SomeField}
use Rattle.buffa_bytes.specs.Join.{Join}
use Rattle.buffa_bytes.specs.Join.Join.{none, more}
use Rattle.buffa_bytes.specs.Readings.{tag_at}
use Rattle.buffa_bytes.specs.declared.wire_type.WireType.{WireType}
use Rattle.buffa_bytes.specs.declared.error.DecodeError.{DecodeError}
use Rattle.buffa_bytes.specs.declared.error.DecodeError.TheVariants.{OutOfMemory}
use Rattle.buffa_bytes.proofs.SequenceLemmas.{err_same, ok_same}
use Rattle.buffa_wire.proofs.SpentLemmas.{same_left}
use Rattle.buffa_wire.specs.BudgetLeft.{BudgetLeft, Lacks, Pays, plus}
use Rattle.buffa_wire.specs.Records.{FieldData}
use Rattle.buffa_wire.proofs.CostLemmas.{field_alone}
use Rattle.buffa_wire.specs.ByField.{value_of}
use Rattle.buffa_wire.proofs.ByFieldLemmas.{Same, refused}
use Rattle.buffa_sets.specs.Set.{IsSetFieldRefused, NextIsRefused, StopsBehind, record_of_field, set_cost, set_field, set_merged, set_charge}
use Rattle.buffa_sets.specs.SetFacts.{set_same, set_sound, set_stays}
use Rattle.buffa_sets.proofs.MergeLemmas.{by_payloads}
use Rattle.buffa_wire.proofs.ByPayloadLemmas.{cost_empty, cost_next, merged_empty, merged_next}
use Rattle.std.proofs.lemmas.Option.{same_Some}

abbrev Values : Type 0
Values = List (ℕ × FieldData)

module _ (d : ℕ) where
  -- a field that is merged, and whose cost is there, isn't refused
  module _ (v b : Values) (n : ℕ) (w : WireType) (t p q s : List ℕ) (tag : IsTag t n w) (payload : Payload d n w p) (left over : BudgetLeft) (e : DecodeError)
      (means : set_merged d v ((t ++ p) ++ q) ≡ Some b) (pays : Pays left (set_cost d ((t ++ p) ++ q)) over) where
    abbrev rest : List ℕ
    rest = p ++ (q ++ s)

    charge : set_charge d n w rest ≡ set_cost d (t ++ p)
    charge = set_stays d n w p (q ++ s) payload ∙ sym (field_alone (set_charge d) d (set_stays d) t p n w tag payload)

    costs : set_cost d ((t ++ p) ++ q) ≡ plus (set_cost d (t ++ p)) (set_cost d q)
    costs = cost_next by_payloads d (t ++ p) q (n, w, (t, p, tag, payload, refl))

    enough : Lacks left (set_charge d n w rest) → ⊥
    enough (inl few) = omega (arith, few, pays.0, ap (λ z. z.unknown) charge, ap (λ z. z.unknown) costs)
    enough (inr few) = omega (arith, few, pays.1, ap (λ z. z.memory) charge, ap (λ z. z.memory) costs)

    means_some : Same (set_field d v n w) p → value_of (set_field d v n w rest) ≡ None → ⊥
    means_some (inl (u, k)) nothing_is = let bad = sym (ap value_of (k (q ++ s))) ∙ nothing_is in cc
    means_some (inr (f, k)) nothing_is =
        let bad : set_merged d v ((t ++ p) ++ q) ≡ None = ap (set_merged d v) (append_assoc t p q) ∙ refused d (set_field d) (set_sound d) (set_same d) v n w t tag (p ++ q) f (k q) in
        let both = sym bad ∙ means in cc

    taken_is : IsSetFieldRefused d v n w rest left e → ⊥
    taken_is (inl few, read) = enough few
    taken_is (inr (nothing_is, limit), read) = means_some (set_same d v n w p payload) nothing_is

    not_refused : (bs : List ℕ) → bs ≡ ((t ++ p) ++ q) ++ s → NextIsRefused d v bs left e → ⊥
    not_refused bs is next =
        let split : bs ≡ t ++ rest = is ∙ append_assoc (t ++ p) q s ∙ append_assoc t p (q ++ s) in
        let there : tag_at bs ≡ Ok (n, w, rest) = ap tag_at split ∙ tag_complete t n w rest tag in
        elim next [
          | inl none_there ↦ (let bad = sym there ∙ none_there in cc)
          | inr other ↦ taken_is (subst (λ z. IsSetFieldRefused d v z.0 z.1 z.2 left e) (ok_same (sym other.3 ∙ there)) other.4)
        ]

  -- a front of no fields, which leaves v, and one of a field and more
  module _ (old a b : Values) (r p q s : List ℕ) (one : SomeField d p) (before x y : BudgetLeft) (e : DecodeError) where
    no_front : r ≡ (p ++ q) ++ s → set_merged d old [] ≡ Some a → set_merged d old (p ++ q) ≡ Some b → Pays before (set_cost d []) x → Pays before (set_cost d (p ++ q)) y → NextIsRefused d a r x e → ⊥
    no_front is start means free pays next =
        let same : old ≡ a = same_Some _ _ (sym (merged_empty by_payloads d old) ∙ start) in
        let f = one.2 in
        let whole : p ≡ f.0 ++ f.1 = f.4 in
        let merged : set_merged d a ((f.0 ++ f.1) ++ q) ≡ Some b = ap (λ z. set_merged d z ((f.0 ++ f.1) ++ q)) (sym same) ∙ ap (λ z. set_merged d old (z ++ q)) (sym whole) ∙ means in
        let cost = ap (λ z. set_cost d (z ++ q)) whole in
        let nothing_is = cost_empty by_payloads d in
        let paid : Pays x (set_cost d ((f.0 ++ f.1) ++ q)) y = (
          omega (arith, free.0, pays.0, ap (λ z. z.unknown) cost, ap (λ z. z.unknown) nothing_is),
          omega (arith, free.1, pays.1, ap (λ z. z.memory) cost, ap (λ z. z.memory) nothing_is),
        ) in
        not_refused a b one.0 one.1 f.0 f.1 q s f.2 f.3 x y e merged paid r (is ∙ ap (λ z. (z ++ q) ++ s) whole) next

  -- what is merged behind a field is merged into what the field makes
  behind : (o : Option Values) (q : List ℕ) (a : Values) → option_and_then (λ w. set_merged d w q) o ≡ Some a → (u : Values) × (o ≡ Some u) × (set_merged d u q ≡ Some a)
  behind None q a h = cc
  behind (Some u) q a h = (u, refl, h)

  module _ (before x y : BudgetLeft) (p q g : List ℕ) (one : SomeField d p) where
    pays_behind : Pays before (set_cost d (p ++ q)) x → Pays (plus x (set_cost d q)) (set_cost d q) x
    pays_behind h = (refl, refl)

    pays_both : Pays before (set_cost d (p ++ q)) x → Pays before (set_cost d (p ++ g)) y → Pays (plus x (set_cost d q)) (set_cost d g) y
    pays_both h k =
        let c = cost_next by_payloads d p q one in
        let m = cost_next by_payloads d p g one in (
          omega (arith, h.0, k.0, ap (λ z. z.unknown) c, ap (λ z. z.unknown) m),
          omega (arith, h.1, k.1, ap (λ z. z.memory) c, ap (λ z. z.memory) m),
        )

  one_front : (f g : List ℕ) → Join (SomeField d) f → Join (SomeField d) g → (r s : List ℕ) (old a b : Values) (before x y : BudgetLeft) (e h : DecodeError) → f ++ r ≡ g ++ s →
      set_merged d old f ≡ Some a → set_merged d old g ≡ Some b → Pays before (set_cost d f) x → Pays before (set_cost d g) y → NextIsRefused d a r x e → NextIsRefused d b s y h → f ≡ g
  one_front _ _ none none r s old a b before x y e h is ma mb px py na nb = refl
  one_front _ _ none (more p q one j) r s old a b before x y e h is ma mb px py na nb = absurd (no_front old a b r p q s one before x y e is ma mb px py na)
  one_front _ _ (more p q one j) none r s old a b before x y e h is ma mb px py na nb = absurd (no_front old b a s p q r one before y x h (sym is) mb ma py px nb)
  one_front _ _ (more p q one j) (more o g two k) r s old a b before x y e h is ma mb px py na nb =
      let split : p ++ (q ++ r) ≡ o ++ (g ++ s) = sym (append_assoc p q r) ∙ is ∙ append_assoc o g s in
      let same : o ≡ p = sym (one_field d p o (q ++ r) (g ++ s) one two split) in
      let rest : q ++ r ≡ g ++ s = append_cancel_left p (q ++ r) (g ++ s) (split ∙ ap (λ z. z ++ (g ++ s)) same) in
      let u = behind (set_merged d old p) q a (sym (merged_next by_payloads d old p q one) ∙ ma) in
      let mb2 : set_merged d old (p ++ g) ≡ Some b = ap (λ z. set_merged d old (z ++ g)) (sym same) ∙ mb in
      let v = behind (set_merged d old p) g b (sym (merged_next by_payloads d old p g one) ∙ mb2) in
      let py2 : Pays before (set_cost d (p ++ g)) y = subst (λ z. Pays before (set_cost d (z ++ g)) y) same py in
      let inner : set_merged d u.0 g ≡ Some b = ap (λ z. set_merged d z g) (same_Some _ _ (sym u.1 ∙ v.1)) ∙ v.2 in
      let whole : q ≡ g = one_front q g j k r s u.0 a b (plus x (set_cost d q)) x y e h rest u.2 inner (pays_behind before x y p q g one px) (pays_both before x y p q g one px py2) na nb in
      (λ i. sym same i ++ whole i)

-- one fault is told of the field at the front
one_fault : (d : ℕ) (v : Values) (bs : List ℕ) (left : BudgetLeft) (e f : DecodeError) → NextIsRefused d v bs left e → NextIsRefused d v bs left f → e ≡ f
one_fault d v bs left e f (inl a) (inl b) = err_same (sym a ∙ b)
one_fault d v bs left e f (inl a) (inr (n, w, after, tag, why)) = let bad = sym a ∙ tag in cc
one_fault d v bs left e f (inr (n, w, after, tag, why)) (inl b) = let bad = sym b ∙ tag in cc
one_fault d v bs left e f (inr (n, w, after, tag, why)) (inr (m, u, behind_tag, also, because)) =
    err_same (sym why.1 ∙ ap (λ z. record_of_field d left.unknown z.0 z.1 z.2) (ok_same (sym tag ∙ also)) ∙ because.1)

pub stop_is_pinned : (d : ℕ) (old a b : List (ℕ × FieldData)) (bs : List ℕ) (before x y : BudgetLeft) (e f : DecodeError) →
    StopsBehind d old bs before e a x → StopsBehind d old bs before f b y → e ≢ OutOfMemory → f ≢ OutOfMemory → (a ≡ b) × (x ≡ y) × (e ≡ f)
stop_is_pinned d old a b bs before x y e h (f, r, j, is, some, ma, px, na, fa) (g, s, k, is2, some2, mb, py, nb, fb) ne nh =
    let same = one_front d f g j k r s old a b before x y e h (sym is ∙ is2) ma mb px py (na ne) (nb nh) in
    let value : a ≡ b = same_Some _ _ (sym ma ∙ ap (set_merged d old) same ∙ mb) in
    let cost = ap (set_cost d) same in
    let budget : x ≡ y = same_left x y (omega (arith, px.0, py.0, ap (λ z. z.unknown) cost)) (omega (arith, px.1, py.1, ap (λ z. z.memory) cost)) in
    let behind_it : r ≡ s = append_cancel_left f r s (sym is ∙ is2 ∙ ap (λ z. z ++ s) (sym same)) in
    let next : NextIsRefused d b s y e = subst (λ z. NextIsRefused d b s z e) budget (subst (λ z. NextIsRefused d b z x e) behind_it (subst (λ z. NextIsRefused d z r x e) value (na ne))) in
    (value, budget, one_fault d b s y e h next (nb nh))
