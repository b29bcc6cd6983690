-- What the laws of members that put records aside say.
use Rattle.std.proofs.Common.{◌≡◌, ℕ, ℤ, Bool, true, false, List, [], ◌++◌, length, cond, Option, Some, None, Result, Ok, Err, refl, sym, ap, subst, ◌∙◌, zero-add}
use Rattle.std.proofs.lemmas.Bool.{eq-eqb}
use Rattle.std.specs.Option.{option_map}
use Rattle.buffa_bytes.proofs.FieldLemmas.{same_true}
use Rattle.buffa_bytes.proofs.VarintLemmas.{varint_complete}
use Rattle.buffa_bytes.specs.Field.{Payload}
use Rattle.buffa_bytes.specs.Readings.{same_wire}
use Rattle.buffa_bytes.specs.declared.error.DecodeError.{DecodeError}
use Rattle.buffa_bytes.specs.declared.wire_type.WireType.{WireType}
use Rattle.buffa_bytes.specs.declared.wire_type.WireType.TheVariants.{LengthDelimited, Varint}
use Rattle.buffa_map.specs.Codec.{Reading}
use Rattle.buffa_map.specs.EntryReading.{entry_of, charge_of}
use Rattle.buffa_map.specs.Run.{undeclared_record}
use Rattle.buffa_map.specs.declared.map_entry.MapEntry.{MapEntry}
use Rattle.buffa_wire.specs.BudgetLeft.{nothing, plus, unknown_fields}
use Rattle.buffa_wire.specs.ByField.{value_of}
use Rattle.buffa_wire.specs.Enums.{Numbers}
use Rattle.buffa_fields.specs.UnknownsOfMembers.{Unknowns, Kept}
use Rattle.buffa_fields.specs.EntriesTaken.{entry_cost, entry_taken}
use Rattle.buffa_fields.specs.facts.InsideFacts.{delimited_alone}
use Rattle.buffa_fields.specs.ClosedEnumLists.{kept_numbers_cost, kept_numbers_taken, numbers_put, undeclared_of, varints}
use Rattle.buffa_fields.specs.facts.ClosedEnumListFacts.{sifted_costs}
use Rattle.buffa_fields.specs.ClosedEnumMaps.{kept_entry_cost, kept_pair_cost, kept_pair_taken, put_or_keep}
use Rattle.buffa_fields.specs.facts.ClosedEnumFieldFacts.{number_taken, set}
use Rattle.buffa_fields.specs.ClosedEnumFields.{kept_number_cost, kept_number_taken, number_put}
use Rattle.buffa_fields.specs.Schema.{Schema, Shape}
use Rattle.buffa_fields.specs.Lists.{elements_taken}
use Rattle.buffa_fields.specs.MapFields.{pair_cost}
use Rattle.buffa_fields.specs.MemberList.{field_with_unknowns}
use Rattle.buffa_fields.specs.TakenClauses.{GoesToUnknowns}

-- ---- a member that puts records aside, in front of others that keep fields
pub goes_to_unknowns : {M P A B : Type 0} (k : ℕ) (get : M → P) (s : Shape P A) (a : Unknowns A) (l : Schema M B) → l.keeps ≡ true → GoesToUnknowns s a l (field_with_unknowns k get s a l) k
goes_to_unknowns k get s a l keeps d x w p u rs h = (
  (u, l.adds x.1 rs),
  rw (eq-eqb k k refl, h) refl,
  ap (λ (z : Kept). s.records k u ++ z) (l.in_two (l.adds x.1 rs) ∙ (λ i. l.adds_own x.1 rs i ++ l.adds_kept keeps x.1 rs i)),
  l.adds_kept keeps x.1 rs,
)

-- ---- what each costs: an unknown field for each record
-- the records that were put aside
abbrev unknowns_of : {X : Type 0} → Option (X × Kept) → Kept
unknowns_of (Some x) = x.1
unknowns_of None = []

with_no_unknowns : (rs ys : Kept) → ys ≡ rs → unknown_fields (length ys) ≡ plus nothing (unknown_fields (length rs))
with_no_unknowns rs ys h = λ i. record { unknown = (ap length h ∙ sym (zero-add (length rs))) i; memory = 0 }

module _ (e : Numbers) (d n : ℕ) (p more : List ℕ) where
  -- lists
  pub numbers_cost_each : (w : WireType) (v u : List ℤ) (rs : Kept) → Payload d n w p → kept_numbers_taken e d (v, []) n w p ≡ Some (u, rs) → kept_numbers_cost e d n w (p ++ more) ≡ plus nothing (unknown_fields (length rs))
  unfolding kept_numbers_taken kept_numbers_cost
  numbers_cost_each w v u rs payload h = at (elements_taken varints d [] n w p) refl h
    where
      at : (o : Option (List ℕ)) → elements_taken varints d [] n w p ≡ o → option_map (numbers_put e (λ vs us. vs ++ us) n (v, [])) o ≡ Some (u, rs) → kept_numbers_cost e d n w (p ++ more) ≡ plus nothing (unknown_fields (length rs))
      at (Some ks) is h = sifted_costs e (elements_taken varints) d n w p more ks payload is ∙ with_no_unknowns rs (undeclared_of e n ks) (ap unknowns_of h)
      at None is h = cc

  -- optional ones
  pub number_cost_each : (w : WireType) (v u : Option ℤ) (rs : Kept) → Payload d n w p → kept_number_taken e d (v, []) n w p ≡ Some (u, rs) → kept_number_cost e d n w (p ++ more) ≡ plus nothing (unknown_fields (length rs))
  number_cost_each w v u rs payload h = at (same_wire Varint w) refl h
    where
      at : (b : Bool) → same_wire Varint w ≡ b → kept_number_taken e d (v, []) n w p ≡ Some (u, rs) → kept_number_cost e d n w (p ++ more) ≡ plus nothing (unknown_fields (length rs))
      at true is h =
          let wire : w ≡ Varint = sym (same_true Varint w is) in
          let k = subst (λ z. Payload d n z p) wire payload in
          let there = varint_complete p k.0 more k.1 in
          let alone = sym (number_taken e d n k.0 p (v, []) k.1) ∙ subst (λ z. kept_number_taken e d (v, []) n z p ≡ Some (u, rs)) wire h in
          let cost : kept_number_cost e d n Varint (p ++ more) ≡ unknown_fields (length (number_put e (set e) n (None, []) k.0).1) = rw there refl in
          subst (λ z. kept_number_cost e d n z (p ++ more) ≡ plus nothing (unknown_fields (length rs))) (sym wire) (cost ∙ with_no_unknowns rs (number_put e (set e) n (None, []) k.0).1 (ap unknowns_of alone))
      at false is h = let no : (let o : Option (Option ℤ × Kept) = None in o) ≡ Some (u, rs) = rw is at h in cc

-- maps
module _ {K V : Type 0} (key : Reading K) (val : Reading V) (puts : List (K × V) → K → V → List (K × V)) (cost d n : ℕ) where
  one_record : (e : List ℕ) (known : Bool) → cond known 0 1 ≡ length (undeclared_record n e known)
  one_record e true = refl
  one_record e false = refl

  of_entry : (v u : List (K × V)) (e : List ℕ) (rs : Kept) (r : Result (MapEntry K V) DecodeError) →
      option_map (λ x. put_or_keep key val puts n (v, []) x.0 x.1) (option_map (λ s. let y : List ℕ × MapEntry K V = (e, s) in y) (value_of r)) ≡ Some (u, rs) →
      plus (charge_of key val d cost e) (kept_entry_cost key val r) ≡ plus (charge_of key val d cost e) (unknown_fields (length rs))
  of_entry v u e rs (Ok s) h = ap (λ k. plus (charge_of key val d cost e) (unknown_fields k)) (one_record e s.known ∙ ap length (ap unknowns_of h))
  of_entry v u e rs (Err f) h = cc

  pub pair_cost_each : (w : WireType) (p more : List ℕ) (v u : List (K × V)) (rs : Kept) → Payload d n w p → kept_pair_taken key val puts d (v, []) n w p ≡ Some (u, rs) →
      kept_pair_cost key val cost d n w (p ++ more) ≡ plus (pair_cost key val cost d n w (p ++ more)) (unknown_fields (length rs))
  unfolding entry_taken entry_cost
  pair_cost_each w p more v u rs payload h = at (same_wire LengthDelimited w) refl
    where
      at : (b : Bool) → same_wire LengthDelimited w ≡ b → kept_pair_cost key val cost d n w (p ++ more) ≡ plus (pair_cost key val cost d n w (p ++ more)) (unknown_fields (length rs))
      at true is =
          let x = delimited_alone d n w p more (p ++ more) (sym (same_true LengthDelimited w is)) payload refl in
          rw (is, x.1) (of_entry v u x.0 rs (entry_of key val d x.0) (rw (is, x.2) at h))
      at false is = let none = rw is at h in cc
