-- What is proved of a oneof as a part of a message.
use Rattle.std.proofs.Common.{◌≡◌, ℕ, ◌≤◌, [], Option, Some, None, refl, sym, ap, subst, ◌∙◌, arith}
use Rattle.std.specs.List.{AllByRecursion}
use Rattle.std.specs.Option.{option_map}
use Rattle.buffa_wire.specs.Encoding.{records_encoding}
use Rattle.buffa_wire.specs.Parse.{AreValid}
use Rattle.buffa_wire.specs.ReadableFacts.{Readable}
use Rattle.buffa_wire.specs.Records.{records_of}
use Rattle.buffa_wire.specs.Takes.{IsTaken, ReadsBack}
use Rattle.buffa_fields.specs.facts.ReadBackFacts.{no_pieces}
use Rattle.buffa_fields.specs.Cases.{Cases, CasesLaws, if_there}
use Rattle.buffa_fields.specs.UndeclaredFields.{AllNumbers}
use Rattle.buffa_fields.specs.Schema.{Seen, more}
use Rattle.buffa_fields.specs.facts.SchemaFacts.{more_none}
use Rattle.buffa_fields.specs.Levels.{IsTakenWritten}
use Rattle.buffa_fields.specs.facts.MemberPartFacts.{first_alone, first_back, first_of, none_mine}
use Rattle.buffa_fields.specs.OneOfParts.{OneOf, one_of_part}
use Rattle.buffa_fields.specs.facts.FieldAndOthersFacts.{part_taken}
use Rattle.buffa_fields.specs.MessageParts.{PartLaws}
use Rattle.buffa_fields.specs.Values.{IfThere}

-- ---- cases, of which one or none is there
module _ {V X : Type 0} (c : Cases V X) (laws : CasesLaws c) where
  pub there_seen : {O : Type 0} (view : O → V) (o : Option O) (z : Seen) →
      if_there z (λ x. c.seen (view x) z) o ≡ more (if_there [] c.records (c.meaning (option_map view o))) (if_there [] c.slots (c.meaning (option_map view o))) z
  there_seen view None z = more_none z ∙ ap (λ x. more (if_there [] c.records x) (if_there [] c.slots x) z) (sym laws.absent)
  there_seen view (Some x) z = laws.seen_is (view x) z

  there_valid : c.Owes → c.Fine → (v : Option X) → IfThere c.normal v → AreValid (records_of (if_there [] c.records v))
  there_valid owes fine None normal = tt
  there_valid owes fine (Some x) normal = laws.valid owes fine x normal

  there_back : c.Owes → c.Fine → (d : ℕ) (v : Option X) → Readable (records_of (if_there [] c.records v)) → IfThere c.normal v → if_there 0 c.levels v ≤ d → ReadsBack c.takes c.mine d None (records_encoding (if_there [] c.records v)) v
  there_back owes fine d None fits normal low = no_pieces c.takes c.mine d None
  there_back owes fine d (Some x) fits normal low = laws.back owes fine d x fits normal low

  there_numbers : c.Owes → c.Exact → (v : Option X) → AllNumbers c.mine (if_there [] c.records v)
  there_numbers owes exact None = tt
  there_numbers owes exact (Some x) = laws.numbers owes exact x

  there_least : c.Owes → c.Exact → c.Fine → (d : ℕ) (v : Option X) → IfThere c.normal v → AllByRecursion (IsTakenWritten c.takes d) (if_there [] c.records v) → if_there 0 c.levels v ≤ d
  there_least owes exact fine d None normal own = omega arith
  there_least owes exact fine d (Some x) normal own = laws.least owes exact fine d x normal own

-- ---- the laws
pub one_of_laws : {M O X : Type 0} (get : M → Option O) (e : OneOf O X) → PartLaws (one_of_part get e)
one_of_laws {M} get e =
    let c = e.all.cases in
    let laws = e.all.laws in
    let says : M → Option _ = λ m. c.meaning (option_map e.view (get m)) in record {
      fine = λ D keeps sound ok. laws.fine D sound ok;
      stays = laws.stays;
      same_is = λ a b h. ap (λ o. c.meaning (option_map e.view o)) (sym h);
      seen_is = λ m z. there_seen c laws e.view (get m) z;
      taken_is = λ adds b u kept keeps S E d old n w bs before r new after rest mine same but h.
          subst (λ z. IsTaken (first_of c.takes) c.charge d (says old, b) n w bs before r (says new, z) after rest) (same h.1)
          (part_taken c.takes c.charge (first_of c.takes) c.charge d n w (says old) (says old, b) (λ x. (x, b)) (λ x. refl) (λ x. refl) bs rest before after r (says new)
          (laws.taken_is (λ o. option_map e.view o) d (get old) n w bs before r (get new) after rest mine h.0));
      asks_is = λ kept keeps d old n w bs before r new after rest mine h. laws.asks_is (λ o. option_map e.view o) d (get old) n w bs before r (get new) after rest mine h;
      differs_only = λ adds b u none kept keeps S E d old n w bs before e new after rest same but h. same h.1;
      others_low = λ v m kept. omega arith;
      valid = λ owes fine v normal. there_valid c laws owes fine v normal;
      back = λ owes fine adds none twice d v m kept b fits normal low. first_back c.takes c.mine d None v b _ (there_back c laws owes fine d v fits normal (omega (arith, low)));
      again = λ owes adds d v m kept beside low. none_mine c.mine _ kept beside;
      numbers = λ owes exact v. there_numbers c laws owes exact v;
      least = λ owes exact fine {B} adds d v m kept normal beside low own unknowns.
          let mine = there_least c laws owes exact fine d v normal (first_alone B c.takes d (if_there [] c.records v) own) in
          omega (arith, mine, low);
    }
