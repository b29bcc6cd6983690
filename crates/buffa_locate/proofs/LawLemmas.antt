-- What the definitions of places say together.
use Rattle.std.proofs.Common.{◌≡◌, ◌≢◌, inl, inr, ℕ, ◌+◌, ◌-◌, ◌<◌, ◌≤◌, List, [], ◌++◌, take, drop, take-append-drop, length, Option, None, Some, Result, Ok, Err, refl, sym, ap, subst, ◌∙◌, arith, append_assoc, length-append}
use Rattle.std.proofs.Math.Seq.{take-take, drop-append_seam, length-take-le}
use Rattle.std.proofs.lemmas.Bool.{cases_lt}
use Rattle.std.specs.Prelude.{IsSome}
use Rattle.std.specs.Option.{option_and_then}
use Rattle.buffa_bytes.specs.declared.error.DecodeError.{DecodeError}
use Rattle.buffa_bytes.specs.declared.tag.Tag.{Tag}
use Rattle.buffa_bytes.specs.declared.wire_type.WireType.{WireType}
use Rattle.buffa_bytes.specs.Field.{IsTag, Payload, SomeField}
use Rattle.buffa_bytes.specs.Join.{Join}
use Rattle.buffa_bytes.specs.Join.Join.{none, more}
use Rattle.buffa_bytes.specs.Readings.{tag_at}
use Rattle.buffa_bytes.proofs.FieldLemmas.{tag_complete, tag_some}
use Rattle.buffa_wire.proofs.ByPayloadLemmas.{ByPayload, cost_join, cost_next, merged_fields, merged_join, merged_next}
use Rattle.buffa_wire.specs.BudgetLeft.{BudgetLeft, Lacks, Pays, plus}
use Rattle.buffa_wire.specs.Message.{FieldRefused, MergeFault}
use Rattle.buffa_wire.specs.Takes.{Charge, Taker}
use Rattle.buffa_locate.proofs.PlaceLemmas.{paid}
use Rattle.buffa_locate.specs.Places.{AreAllMerged, IsFirstRefused, RefusesAt}
use Rattle.buffa_locate.specs.declared.refused.Refused.{Refused}

-- what is refused isn't all merged
pub not_merged : {X : Type 0} (meant : Option X) (charge before : BudgetLeft) (e : DecodeError) → MergeFault meant charge before e → AreAllMerged meant charge before → ⊥
not_merged meant charge before e (inl lacks) (is, there) = there lacks
not_merged meant charge before e (inr (nothing_meant, _)) (is, there) = let k = subst IsSome nothing_meant is in cc

-- of two steps that come to a value, the first does
first_step : {X : Type 0} (one : Option X) (next : X → Option X) (last : X) → option_and_then next one ≡ Some last → (mid : X) × (one ≡ Some mid)
first_step None next last is = cc
first_step (Some mid) next last is = (mid, refl)

some_is : {X : Type 0} (o : Option X) (v : X) → o ≡ Some v → IsSome o
some_is o v is = subst IsSome (sym is) refl

ok_or : {A : Type 0} → A → Result A DecodeError → A
ok_or d (Ok x) = x
ok_or d (Err e) = d

begins_with : {P : List ℕ → Type 0} (b : List ℕ) → Join P b → 0 < length b → (f : List ℕ) × (r : List ℕ) × P f × (b ≡ f ++ r)
begins_with _ none h = absurd (omega (arith, h))
begins_with _ (more f r one k) h = (f, r, one, refl)

-- where a field is refused, a field with its payload is
refused_field : {X : Type 0} (merged : ℕ → X → List ℕ → Option X) (cost : ℕ → List ℕ → BudgetLeft) (Says : FieldRefused X) (d : ℕ) (mid : X) (bytes : List ℕ) (left : BudgetLeft) (at : ℕ) (tag : Option Tag) (behind : ℕ) (e : DecodeError) (n : ℕ) (w : WireType) (t p x : List ℕ) →
    RefusesAt merged cost Says d mid bytes left at tag behind e → IsTag t n w → Payload d n w p → drop at bytes ≡ t ++ (p ++ x) → MergeFault (merged d mid (t ++ p)) (cost d (t ++ p)) left e
unfolding ok_or
refused_field merged cost Says d mid bytes left at None behind e n w t p x (is, _) tagged payload here =
    let k = sym (ap tag_at here ∙ tag_complete t n w (p ++ x) tagged) ∙ is in cc
refused_field merged cost Says d mid bytes left at (Some tag) behind e n w t p x (is, _, _, _, why) tagged payload here =
    let same = ap (ok_or (n, w, p ++ x)) (sym (ap tag_at here ∙ tag_complete t n w (p ++ x) tagged) ∙ is) in
    let number : n ≡ tag.number = ap (λ (z : ℕ × WireType × List ℕ). z.0) same in
    let wire : w ≡ tag.wire_type = ap (λ (z : ℕ × WireType × List ℕ). z.1) same in
    let past : p ++ x ≡ drop behind bytes = ap (λ (z : ℕ × WireType × List ℕ). z.2) same in
    why t p (subst (λ k. IsTag t k tag.wire_type) number (subst (λ v. IsTag t n v) wire tagged))
    (inl (x, subst (λ k. Payload d k tag.wire_type p) number (subst (λ v. Payload d n v p) wire payload), sym past))

module _ {X : Type 0} {takes : Taker X} {charge : Charge} {merged : ℕ → X → List ℕ → Option X} {cost : ℕ → List ℕ → BudgetLeft} (by : ByPayload takes charge merged cost) {Says : FieldRefused X}
    {d : ℕ} {old : X} {bytes : List ℕ} {before : BudgetLeft} where
  -- what is in front of the first refused record is all merged
  pub front_merged : (found : Refused) → IsFirstRefused merged cost Says d old bytes before found → AreAllMerged (merged d old (take found.at bytes)) (cost d (take found.at bytes)) before
  front_merged found first = (some_is _ first.mid first.means, paid before (cost d (take found.at bytes)) _ first.pays)

  -- so is each beginning of it that is fields
  pub beginning_merged : (found : Refused) (n : ℕ) → IsFirstRefused merged cost Says d old bytes before found → n ≤ found.at → Join (SomeField d) (take n bytes) →
      AreAllMerged (merged d old (take n bytes)) (cost d (take n bytes)) before
  beginning_merged found n first within fields =
      let front = take found.at bytes in
      let split : front ≡ take n bytes ++ drop n front = sym (take-append-drop n front) ∙ ap (λ z. z ++ drop n front) (take-take n found.at bytes within) in
      let step = first_step (merged d old (take n bytes)) (λ w. merged d w (drop n front)) first.mid
      (sym (merged_join by d (take n bytes) (drop n front) fields old) ∙ ap (merged d old) (sym split) ∙ first.means) in
      let adds : cost d front ≡ plus (cost d (take n bytes)) (cost d (drop n front)) = ap (cost d) split ∙ cost_join by d (take n bytes) (drop n front) fields in
      let u = ap (λ (z : BudgetLeft). z.unknown) adds in
      let m = ap (λ (z : BudgetLeft). z.memory) adds in (
        some_is _ step.0 step.1,
        elim [
          | inl few ↦ omega (arith, first.pays.0, u, few)
          | inr little ↦ omega (arith, first.pays.1, m, little)
        ],
      )

  -- a field that is merged behind what is in front of the first refused record isn't refused
  clash : (one other : Refused) (first : IsFirstRefused merged cost Says d old bytes before one) (second : IsFirstRefused merged cost Says d old bytes before other) (m f r rest : List ℕ) → SomeField d f → m ≡ f ++ r →
      drop one.at bytes ≡ m ++ rest → merged d first.mid m ≡ Some second.mid → cost d (take other.at bytes) ≡ plus (cost d (take one.at bytes)) (cost d m) → ⊥
  clash one other first second m f r rest (n, w, (t, p, tagged, payload, f_is)) is here on adds =
      let field : SomeField d f = (n, w, (t, p, tagged, payload, f_is)) in
      let step = first_step (merged d first.mid f) (λ v. merged d v r) second.mid (sym (merged_next by d first.mid f r field) ∙ ap (merged d first.mid) (sym is) ∙ on) in
      let more_adds : cost d m ≡ plus (cost d f) (cost d r) = ap (cost d) is ∙ cost_next by d f r field in
      let stands : drop one.at bytes ≡ t ++ (p ++ (r ++ rest)) =
      here ∙ ap (λ (z : List ℕ). z ++ rest) is ∙ append_assoc f r rest ∙ ap (λ (z : List ℕ). z ++ (r ++ rest)) f_is ∙ append_assoc t p (r ++ rest) in
      let left : BudgetLeft = record { unknown = one.unknown; memory = one.memory } in
      let fault = refused_field merged cost Says d first.mid bytes left one.at one.tag one.behind one.fault n w t p (r ++ rest) first.refuses tagged payload stands in
      let of_field = subst (λ (z : List ℕ). MergeFault (merged d first.mid z) (cost d z) left one.fault) (sym f_is) fault in
      let u = ap (λ (z : BudgetLeft). z.unknown) adds in
      let k = ap (λ (z : BudgetLeft). z.memory) adds in
      let fu = ap (λ (z : BudgetLeft). z.unknown) more_adds in
      let fk = ap (λ (z : BudgetLeft). z.memory) more_adds in
      not_merged (merged d first.mid f) (cost d f) left one.fault of_field (
        some_is _ step.0 step.1,
        elim [
          | inl few ↦ omega (arith, first.pays.0, second.pays.0, u, fu, few)
          | inr little ↦ omega (arith, first.pays.1, second.pays.1, k, fk, little)
        ],
      )

  -- of two first refused records none is in front of the other
  not_before : (one other : Refused) → IsFirstRefused merged cost Says d old bytes before one → IsFirstRefused merged cost Says d old bytes before other → one.at < other.at → ⊥
  not_before one other first second less =
      let fa = take one.at bytes in
      let fb = take other.at bytes in
      let m = drop one.at fb in
      let rest = drop other.at bytes in
      let split : fb ≡ fa ++ m = sym (take-append-drop one.at fb) ∙ ap (λ (z : List ℕ). z ++ m) (take-take one.at other.at bytes (omega (arith, less))) in
      let whole : bytes ≡ fa ++ (m ++ rest) = sym (take-append-drop other.at bytes) ∙ ap (λ (z : List ℕ). z ++ rest) split ∙ append_assoc fa m rest in
      let la : length fa ≡ one.at = length-take-le one.at bytes (omega (arith, first.within)) in
      let lb : length fb ≡ other.at = length-take-le other.at bytes (omega (arith, second.within)) in
      let some : 0 < length m = omega (arith, la, lb, ap length split, length-append fa m, less) in
      let here : drop one.at bytes ≡ m ++ rest = ap (λ k. drop k bytes) (sym la) ∙ ap (drop (length fa)) whole ∙ drop-append_seam fa (m ++ rest) in
      let joined = merged_fields by d old first.mid fa first.means in
      let on : merged d first.mid m ≡ Some second.mid =
      sym (ap (option_and_then (λ v. merged d v m)) first.means) ∙ sym (merged_join by d fa m joined old) ∙ ap (merged d old) (sym split) ∙ second.means in
      let adds : cost d fb ≡ plus (cost d fa) (cost d m) = ap (cost d) split ∙ cost_join by d fa m joined in
      let next = begins_with m (merged_fields by d first.mid second.mid m on) some in
      clash one other first second m next.0 next.1 rest next.2 next.3 here on adds

  -- bytes have one first refused record
  pub one_first : (one other : Refused) → IsFirstRefused merged cost Says d old bytes before one → IsFirstRefused merged cost Says d old bytes before other → one.at ≡ other.at
  one_first one other first second = elim (cases_lt one.at other.at) [
    | inl less ↦ absurd (not_before one other first second less)
    | inr above ↦ elim (cases_lt other.at one.at) [
      | inl less ↦ absurd (not_before other one second first less)
      | inr most ↦ omega (arith, above, most)
    ]
  ]
