-- A value is judged in one way.
use Rattle.std.proofs.Common.{◌≡◌, ◌≢◌, ◌⊎◌, inl, inr, ℕ, ℤ, arith, append-nil, List, [], ◌++◌, Bool, true, false, Option, Some, None, IfSome, Result, Ok, Err, refl, sym, subst, ap, ◌∙◌, ◌&&◌, int_eq, true≢false}
use Rattle.std.specs.Bool.{Decides, beq}
use Rattle.std.specs.Option.{option_eq, option_map}
use Rattle.buffa_bytes.proofs.VarintLemmas.{varint_complete}
use Rattle.buffa_bytes.specs.Field.{Payload}
use Rattle.buffa_bytes.specs.Readings.{varint_at, FullOnlyIf}
use Rattle.buffa_bytes.specs.Scalars.{bool_of}
use Rattle.buffa_bytes.specs.declared.error.DecodeError.{DecodeError}
use Rattle.buffa_bytes.specs.declared.error.DecodeError.TheVariants.{OutOfMemory}
use Rattle.buffa_bytes.specs.declared.wire_type.WireType.{WireType}
use Rattle.buffa_bytes.specs.declared.wire_type.WireType.TheVariants.{Varint, Fixed64, LengthDelimited, StartGroup, EndGroup, Fixed32}
use Rattle.buffa_wire.specs.BudgetLeft.{BudgetLeft}
use Rattle.buffa_wire.specs.Takes.{IsTaken}
use Rattle.buffa_fields.specs.Values.{RefusesAlone, ValueTakesMemory, field_value_at, free, some_taken}
use Rattle.sample_validator.specs.Meaning.{ReadsDeprecated, bool_reading}
use Rattle.std.proofs.lemmas.Bool.Decides.{Decides-and, Decides-int_eq, Decides-like}
use Rattle.std.specs.Int.Signed.{◌≤ℤ◌, ◌<ℤ◌, clash_ℤ}
use Rattle.std.proofs.lemmas.Int.{by_lt_z}
use Rattle.std.proofs.lemmas.Option.{none-some, same_Some}
use Rattle.std.proofs.lemmas.Bool.{false≢true}
use Rattle.std.specs.Cmp.{booleans_Decides}
use Rattle.std.proofs.lemmas.Iterator.Adapters.{option_map_id}
use Rattle.sample_validator.specs.Rules.{Accepts, BreaksRule}
use Rattle.sample_validator.specs.Pinned.{AcceptsOrBreaks, NotBoth, OneViolation}
use Rattle.sample_validator.specs.declared.rules.Rules.{Rules}
use Rattle.sample_validator.specs.declared.rules.Violation.{Violation}
use Rattle.sample_validator.specs.declared.rules.Violation.TheVariants.{Missing, TooSmall, TooGreat}

-- ---- a value is judged

least_or : (m : Option ℤ) (v : ℤ) → IfSome m (λ least. least ≤ℤ v) ⊎ ((least : ℤ) × (m ≡ Some least) × (v <ℤ least))
least_or None v = inl tt
least_or (Some least) v = by_lt_z v least (λ lt. inr (least, refl, lt)) (λ le. inl le)

most_or : (m : Option ℤ) (v : ℤ) → IfSome m (λ most. v ≤ℤ most) ⊎ ((most : ℤ) × (m ≡ Some most) × (most <ℤ v))
most_or None v = inl tt
most_or (Some most) v = by_lt_z most v (λ lt. inr (most, refl, lt)) (λ le. inl le)

some_judged : (rules : Rules) (v : ℤ) → IfSome rules.min (λ least. least ≤ℤ v) ⊎ ((least : ℤ) × (rules.min ≡ Some least) × (v <ℤ least))
    → IfSome rules.max (λ most. v ≤ℤ most) ⊎ ((most : ℤ) × (rules.max ≡ Some most) × (most <ℤ v))
    → Accepts rules (Some v) ⊎ ((w : Violation) × BreaksRule rules (Some v) w)
some_judged rules v (inr h) k = inr (TooSmall, (v, h.0, refl, h.1, h.2))
some_judged rules v (inl h) (inr k) = inr (TooGreat, (v, k.0, refl, k.1, k.2, h))
some_judged rules v (inl h) (inl k) = inl (h, k)

none_judged : (rules : Rules) (asked : Bool) → rules.required ≡ asked → Accepts rules None ⊎ ((w : Violation) × BreaksRule rules None w)
none_judged rules false e = inl e
none_judged rules true e = inr (Missing, (refl, e))

pub is_judged : AcceptsOrBreaks
is_judged rules None = none_judged rules rules.required refl
is_judged rules (Some v) = some_judged rules v (least_or rules.min v) (most_or rules.max v)

-- ---- in one way

too_small : (m : Option ℤ) (v w least : ℤ) → IfSome m (λ l. l ≤ℤ v) → m ≡ Some least → v ≡ w → w <ℤ least → ⊥
too_small m v w least a e same lt = clash_ℤ lt (subst (λ x. least ≤ℤ x) same (subst (λ o. IfSome o (λ l. l ≤ℤ v)) e a))

too_great : (m : Option ℤ) (v w most : ℤ) → IfSome m (λ l. v ≤ℤ l) → m ≡ Some most → v ≡ w → most <ℤ w → ⊥
too_great m v w most a e same lt = clash_ℤ lt (subst (λ x. x ≤ℤ most) same (subst (λ o. IfSome o (λ l. v ≤ℤ l)) e a))

pub not_both : NotBoth
not_both rules None Missing a h = false≢true (sym a ∙ h.1)
not_both rules None TooSmall a h = absurd (none-some h.0 h.2)
not_both rules None TooGreat a h = absurd (none-some h.0 h.2)
not_both rules (Some v) Missing a h = absurd (none-some v (sym h.0))
not_both rules (Some v) TooSmall a h = too_small rules.min v h.0 h.1 a.0 h.3 (same_Some v h.0 h.2) h.4
not_both rules (Some v) TooGreat a h = too_great rules.max v h.0 h.1 a.1 h.3 (same_Some v h.0 h.2) h.4

pub one_violation : OneViolation
one_violation rules o Missing Missing h k = refl
one_violation rules o Missing TooSmall h k = absurd (none-some k.0 (sym h.0 ∙ k.2))
one_violation rules o Missing TooGreat h k = absurd (none-some k.0 (sym h.0 ∙ k.2))
one_violation rules o TooSmall Missing h k = absurd (none-some h.0 (sym k.0 ∙ h.2))
one_violation rules o TooSmall TooSmall h k = refl
one_violation rules o TooSmall TooGreat h k = elim (too_small rules.min k.0 h.0 h.1 k.5 h.3 (same_Some k.0 h.0 (sym k.2 ∙ h.2)) h.4) [ ]
one_violation rules o TooGreat Missing h k = absurd (none-some h.0 (sym k.0 ∙ h.2))
one_violation rules o TooGreat TooSmall h k = elim (too_small rules.min h.0 k.0 k.1 h.5 k.3 (same_Some h.0 k.0 (sym h.2 ∙ k.2)) k.4) [ ]
one_violation rules o TooGreat TooGreat h k = refl

-- ---- rules that `==` says are equal are one

bounds : (a b : Option ℤ) → Decides (option_eq int_eq a b) (a ≡ b)
bounds None None = (λ _. refl, λ _. refl)
bounds None (Some b) = (λ h. absurd (true≢false (sym h)), λ h. absurd (none-some b h))
bounds (Some a) None = (λ h. absurd (true≢false (sym h)), λ h. absurd (none-some a (sym h)))
bounds (Some a) (Some b) = Decides-like (int_eq a b) (λ e. ap Some e) (same_Some a b) (Decides-int_eq a b)

pub rules_decide : (a b : Rules) → Decides (option_eq int_eq a.min b.min && (option_eq int_eq a.max b.max && beq a.required b.required)) (a ≡ b)
rules_decide a b =
    Decides-like _ (λ h i. record { min = h.0 i; max = h.1.0 i; required = h.1.1 i })
    (λ e. (ap (λ (r : Rules). r.min) e, (ap (λ (r : Rules). r.max) e, ap (λ (r : Rules). r.required) e)))
    (Decides-and _ _ (bounds a.min b.min) (Decides-and _ _ (bounds a.max b.max) (booleans_Decides a.required b.required)))

-- ---- the declared field
module _ (d n : ℕ) where
  declared_ok : (w : WireType) (v : Option Bool) (p rest : List ℕ) (u : Option Bool) → Payload d n w p → some_taken bool_reading d v n w p ≡ Some u →
      (x : Bool) × (u ≡ Some x) × (field_value_at bool_reading d false n w (p ++ rest) ≡ Ok ((x, true), rest))
  declared_ok Varint v p rest u (k, h) t =
      let all : some_taken bool_reading d v n Varint p ≡ Some (Some (bool_of k)) = rw (ap varint_at (sym (append-nil p)) ∙ varint_complete p k [] h) refl in
      let same : u ≡ Some (bool_of k) = let both = sym t ∙ all in cc in
      (bool_of k, same, rw (varint_complete p k rest h) refl)
  declared_ok Fixed64 v p rest u h t = cc
  declared_ok LengthDelimited v p rest u h t = cc
  declared_ok StartGroup v p rest u h t = cc
  declared_ok EndGroup v p rest u h t = cc
  declared_ok Fixed32 v p rest u h t = cc

  pub declared_read : (x y : Option Bool) (w : WireType) (bs rest : List ℕ) (before after : BudgetLeft) (r : Result (Unit {0}) DecodeError) →
      IsTaken (some_taken bool_reading) free d (option_map (λ b. b) x) n w bs before r (option_map (λ b. b) y) after rest → FullOnlyIf r (ValueTakesMemory bool_reading d n w bs) →
      ((e : DecodeError) → r ≡ Err e → RefusesAlone bool_reading (λ _. false) d (option_map (λ b. b) x) n w bs e (option_map (λ b. b) y)) → ReadsDeprecated d n x w bs r y rest × (after ≡ before)
  declared_read x y w bs rest before after (Ok z) (p, h, e, t, k) full refused =
      let read = declared_ok w (option_map (λ b. b) x) p rest (option_map (λ b. b) y) h t in
      let unknown : after.unknown ≡ before.unknown = omega (arith, k.0) in
      let memory : after.memory ≡ before.memory = omega (arith, k.1) in
      ((read.0, sym (option_map_id y) ∙ read.1, ap (field_value_at bool_reading d false n w) e ∙ read.2), λ i. record { unknown = unknown i; memory = memory i })
  declared_read x y w bs rest before after (Err e) (k, why, end) full refused =
      let unknown : after.unknown ≡ before.unknown = omega (arith, k.0, k.1, k.2, k.3) in
      let memory : after.memory ≡ before.memory = omega (arith, k.0, k.1, k.2, k.3) in
      let reported = refused e refl in
      let none : e ≢ OutOfMemory = λ is. let asked = (full is).1 in cc in
      ((sym (option_map_id y) ∙ sym reported.0 ∙ option_map_id x, reported.1 none), λ i. record { unknown = unknown i; memory = memory i })
