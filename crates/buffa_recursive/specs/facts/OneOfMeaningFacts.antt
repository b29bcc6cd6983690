-- What is proved of members and oneofs that are told by what they mean.
use Rattle.std.proofs.Common.{◌≡◌, [], Option, Some, None, refl, sym, ap, subst, ◌∙◌}
use Rattle.std.specs.Option.{option_map}
use Rattle.buffa_wire.specs.Takes.{IsTaken}
use Rattle.buffa_fields.specs.UnknownsOfMembers.{Unknowns, IsExactWithUnknowns, ReadsBackWithUnknowns}
use Rattle.buffa_fields.specs.Cases.{CasesLaws, if_there}
use Rattle.buffa_fields.specs.Schema.{IsExactMember, ReadsBackTo, Seen, Shape, more}
use Rattle.buffa_fields.specs.facts.SchemaFacts.{more_none}
use Rattle.buffa_recursive.specs.OneOfMeaning.{cases_by_meaning}
use Rattle.buffa_fields.specs.facts.OneOfFacts.{there_seen}
use Rattle.buffa_fields.specs.OneOfParts.{OneOf, case_means, case_records, case_seen, case_slots}
use Rattle.buffa_recursive.specs.InnerMessages.{shape_by_meaning}

-- ---- a member
module _ {P A : Type 0} (s : Shape P A) where
  exact_by_meaning : IsExactMember s → IsExactMember (shape_by_meaning s)
  exact_by_meaning h = record { numbers = h.numbers; least = h.least }

  pub back_by_meaning : ReadsBackTo s → ReadsBackTo (shape_by_meaning s)
  back_by_meaning h = record { valid = h.valid; back = h.back; exact = λ exact. exact_by_meaning (h.exact exact) }

  -- ---- one that puts aside what it doesn't understand
  module _ (a : Unknowns A) where
    exact_unknowns_by_meaning : IsExactWithUnknowns s a → IsExactWithUnknowns (shape_by_meaning s) a
    exact_unknowns_by_meaning h = record { numbers = h.numbers; least = h.least; unknowns = h.unknowns }

    pub unknowns_by_meaning : ReadsBackWithUnknowns s a → ReadsBackWithUnknowns (shape_by_meaning s) a
    unknowns_by_meaning h = record { valid = h.valid; back = h.back; again = h.again; exact = λ exact. exact_unknowns_by_meaning (h.exact exact) }

-- ---- a oneof
module _ {O X : Type 0} (e : OneOf O X) where
  pub laws_by_meaning : CasesLaws (cases_by_meaning e)
  laws_by_meaning =
      let c = e.all.cases in
      let laws = e.all.laws in record {
        fine = laws.fine;
        absent = refl;
        there = λ v. (v, refl);
        stays = laws.stays;
        taken_is = λ at d old n w bs before r new after rest mine h.
            let one = laws.taken_is (λ x. option_map e.view x) d h.0 n w bs before r h.1 after rest mine h.4 in
            subst (λ z. IsTaken c.takes c.charge d (at old) n w bs before r z after rest) h.3 (subst (λ z. IsTaken c.takes c.charge d z n w bs before r (case_means e h.1) after rest) h.2 one);
        puts = λ at d old n w bs before x new after rest mine h.
            let put = laws.puts (λ x. option_map e.view x) d h.0 n w bs before x h.1 after rest mine h.4 in
            let one = laws.there put.0 in
            (one.0, sym h.3 ∙ ap c.meaning put.1 ∙ one.1);
        asks_is = λ at d old n w bs before r new after rest mine h. laws.asks_is (λ x. option_map e.view x) d h.0 n w bs before r h.1 after rest mine h.4;
        seen_is = λ v z. refl;
        lent_is = λ v. refl;
        valid = laws.valid;
        back = laws.back;
        numbers = laws.numbers;
        least = laws.least;
      }

  -- what is seen of a oneof: the records and the slots of its case
  pub seen_as : (o : Option O) (z : Seen) → case_seen e o z ≡ more (case_records e o) (case_slots e o) z
  seen_as o z = there_seen e.all.cases e.all.laws e.view o z

  pub seen_by_meaning : (o : Option O) (z : Seen) → more (case_records e o) (case_slots e o) z ≡ if_there z (λ v. more (e.all.cases.records v) (e.all.cases.slots v) z) (case_means e o)
  seen_by_meaning o z = by_meaning (case_means e o)
    where
      by_meaning : (x : Option X) → more (if_there [] e.all.cases.records x) (if_there [] e.all.cases.slots x) z ≡ if_there z (λ v. more (e.all.cases.records v) (e.all.cases.slots v) z) x
      by_meaning None = sym (more_none z)
      by_meaning (Some x) = refl
