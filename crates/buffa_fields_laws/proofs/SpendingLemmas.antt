-- What groups and numbers that are put aside cost, of which some are malformed.
use Rattle.std.proofs.Common.{arith, ◌≡◌, ◌≢◌, ℕ, ℤ, suc, ◌-◌, List, [], ◌++◌, Option, Some, None, Ok, Err, refl, ap, ◌∙◌}
use Rattle.std.specs.Option.{option_map}
use Rattle.buffa_bytes.specs.Field.{IsTag, Payload, PayloadFault, SomeField, TagFault}
use Rattle.buffa_bytes.specs.Readings.{varint_at}
use Rattle.buffa_bytes.specs.Join.{Join}
use Rattle.buffa_bytes.specs.declared.error.DecodeError.{DecodeError}
use Rattle.buffa_bytes.specs.declared.wire_type.WireType.{WireType}
use Rattle.buffa_bytes.specs.declared.wire_type.WireType.TheVariants.{EndGroup, Fixed32, Fixed64, LengthDelimited, StartGroup, Varint}
use Rattle.buffa_bytes.proofs.FieldLemmas.{same_false, payload_faulty, tag_complete, tag_faulty}
use Rattle.buffa_wire.specs.BudgetLeft.{BudgetLeft, charge_by, nothing}
use Rattle.buffa_wire.specs.Enums.{Numbers}
use Rattle.buffa_wire.specs.Records.{FieldData}
use Rattle.buffa_wire.specs.Takes.{answer}
use Rattle.buffa_wire.proofs.TakesLemmas.{framed_at}
use Rattle.buffa_fields.specs.ClosedEnumLists.{kept_numbers_cost, kept_numbers_taken, numbers_cost, varints}
use Rattle.buffa_fields.specs.ClosedEnumFields.{kept_number_cost}
use Rattle.buffa_fields.specs.Lists.{elements_taken}
use Rattle.buffa_fields.specs.facts.GroupFacts.{body_past, body_whole, turn}
use Rattle.buffa_fields.specs.Groups.{group_body, group_cost}
use Rattle.buffa_fields.specs.RepeatedGroups.{groups_cost}

module _ (d : ℕ) (b : List ℕ) (j : Join (SomeField d) b) where
  cut : (more : List ℕ) (f : DecodeError) → TagFault more f → group_body d (b ++ more) ≡ b ++ more
  cut more f h = body_past d b more j ∙ ap (λ z. b ++ z) (turn d more (Err f) (tag_faulty more f h))

  broken : (t more : List ℕ) (m : ℕ) (w : WireType) (f : DecodeError) → IsTag t m w → w ≢ EndGroup → PayloadFault d m w more f → group_body d (b ++ (t ++ more)) ≡ b ++ (t ++ more)
  broken t more m w f tag other h =
      body_past d b (t ++ more) j
      ∙ ap (λ z. b ++ z) (turn d (t ++ more) (Ok (m, w, more)) (tag_complete t m w more tag) ∙ rw (same_false EndGroup w other, payload_faulty d m w more f h) refl)

  module _ (cost : ℕ → List ℕ → BudgetLeft) (n : ℕ) where
    one_less : suc d - 1 ≡ d
    one_less = omega arith

    pub whole_cost : (end more : List ℕ) (m : ℕ) → IsTag end m EndGroup → group_cost cost (suc d) n StartGroup (b ++ (end ++ more)) ≡ cost d b
    unfolding group_cost
    whole_cost end more m tag = rw one_less (ap (cost d) (body_whole d b end more m j tag))

    pub cut_cost : (more : List ℕ) (f : DecodeError) → TagFault more f → group_cost cost (suc d) n StartGroup (b ++ more) ≡ cost d (b ++ more)
    unfolding group_cost
    cut_cost more f h = rw one_less (ap (cost d) (cut more f h))

    pub broken_cost : (t more : List ℕ) (m : ℕ) (w : WireType) (f : DecodeError) → IsTag t m w → w ≢ EndGroup → PayloadFault d m w more f →
        group_cost cost (suc d) n StartGroup (b ++ (t ++ more)) ≡ cost d (b ++ (t ++ more))
    unfolding group_cost
    broken_cost t more m w f tag other h = rw one_less (ap (cost d) (broken t more m w f tag other h))

-- fields of other wire types
pub other_cost : (cost : ℕ → List ℕ → BudgetLeft) (each d n : ℕ) (w : WireType) (bs : List ℕ) → w ≢ StartGroup → (group_cost cost d n w bs ≡ nothing) × (groups_cost each cost d n w bs ≡ nothing)
unfolding group_cost groups_cost
other_cost cost each d n Varint bs other = (refl, refl)
other_cost cost each d n Fixed64 bs other = (refl, refl)
other_cost cost each d n LengthDelimited bs other = (refl, refl)
other_cost cost each d n StartGroup bs other = absurd (other refl)
other_cost cost each d n EndGroup bs other = (refl, refl)
other_cost cost each d n Fixed32 bs other = (refl, refl)

-- ---- numbers that are put aside
none_made : {A B : Type 0} (f : A → B) (o : Option A) → option_map f o ≡ None → o ≡ None
none_made f (Some x) h = cc
none_made f None h = refl

module _ (e : Numbers) (d n : ℕ) (w : WireType) where
  pub no_numbers : (bs : List ℕ) (f : DecodeError) → PayloadFault d n w bs f → kept_numbers_cost e d n w bs ≡ nothing
  unfolding kept_numbers_cost
  no_numbers bs f h = rw (payload_faulty d n w bs f h) refl

  pub refused_numbers : (p more : List ℕ) (v : List ℤ) (kept : List (ℕ × FieldData)) → Payload d n w p → kept_numbers_taken e d (v, kept) n w p ≡ None → kept_numbers_cost e d n w (p ++ more) ≡ nothing
  unfolding kept_numbers_cost kept_numbers_taken
  refused_numbers p more v kept h none =
      ap (λ r. charge_by r (λ z. numbers_cost e n z.0)) (framed_at (elements_taken varints) d [] n w p more h)
      ∙ ap (λ o. charge_by (answer more o) (λ z. numbers_cost e n z.0)) (none_made _ (elements_taken varints d [] n w p) none)

-- those of one that may be absent
module _ (e : Numbers) (d n : ℕ) where
  pub no_varint : (bs : List ℕ) (f : DecodeError) → varint_at bs ≡ Err f → kept_number_cost e d n Varint bs ≡ nothing
  no_varint bs f h = rw h refl

  pub no_wire : (w : WireType) (bs : List ℕ) → w ≢ Varint → kept_number_cost e d n w bs ≡ nothing
  no_wire w bs other = rw (same_false Varint w other) refl
