-- Parts of a message by what they mean: each is a function of what finds its meaning in the message. Nothing that is told of the
-- messages inside changes them.
use Rattle.std.specs.Prelude.{◌≡◌, ℕ, Option, None, refl}
use Rattle.buffa_fields.specs.UnknownsOfMembers.{Unknowns, ReadsBackWithUnknowns}
use Rattle.buffa_fields.specs.Schema.{ReadsBackTo, Shape}
use Rattle.buffa_recursive.specs.OneOfMeaning.{cases_by_meaning}
use Rattle.buffa_fields.specs.facts.CasesFacts.{map_same}
use Rattle.buffa_recursive.specs.facts.OneOfMeaningFacts.{back_by_meaning, unknowns_by_meaning, laws_by_meaning}
use Rattle.buffa_fields.specs.facts.MemberPartFacts.{laws_with_unknowns, member_laws}
use Rattle.buffa_fields.specs.MemberParts.{part_with_unknowns, member_part}
use Rattle.buffa_fields.specs.facts.OneOfFacts.{one_of_laws}
use Rattle.buffa_fields.specs.OneOfParts.{OneOf, one_of_part}
use Rattle.buffa_fields.specs.MessageParts.{Part, PartLaws}
use Rattle.buffa_recursive.specs.InnerMessages.{shape_by_meaning}

pub record PartBy (A : Type 0) : Type 1 where
  pub at : {M : Type 0} → (M → A) → Part M A
  pub laws : {M : Type 0} (g : M → A) → PartLaws (at g)
  pub blank : A
  -- what it owes, for reading back and for exact levels
  pub Owes : Type 0
  pub Exact : Type 0
  pub meaning_is : {M : Type 0} (g : M → A) (m : M) → (at g).meaning m ≡ g m
  pub blank_is : {M : Type 0} (g : M → A) → (at g).blank ≡ blank
  pub owes : {M : Type 0} (g : M → A) → Owes → (at g).Owes
  pub exact : {M : Type 0} (g : M → A) → Exact → (at g).Exact

-- a member
abbrev pub member_by : {P A : Type 0} → ℕ → Shape P A → PartBy A
member_by k s = record {
  at = λ g. member_part k g (shape_by_meaning s);
  laws = λ g. member_laws k g (shape_by_meaning s);
  blank = s.blank;
  Owes = ReadsBackTo s;
  Exact = s.Exact;
  meaning_is = λ g m. refl;
  blank_is = λ g. refl;
  owes = λ g back. back_by_meaning s back;
  exact = λ g exact. exact;
}

-- one that puts aside what it doesn't understand, among the fields that are kept
abbrev pub member_with_unknowns_by : {P A : Type 0} → ℕ → Shape P A → Unknowns A → PartBy A
member_with_unknowns_by k s a = record {
  at = λ g. part_with_unknowns k g (shape_by_meaning s) a;
  laws = λ g. laws_with_unknowns k g (shape_by_meaning s) a;
  blank = s.blank;
  Owes = ReadsBackWithUnknowns s a;
  Exact = s.Exact;
  meaning_is = λ g m. refl;
  blank_is = λ g. refl;
  owes = λ g back. unknowns_by_meaning s a back;
  exact = λ g exact. exact;
}

-- a oneof
abbrev pub enum_by_meaning : {O X : Type 0} → OneOf O X → OneOf X X
enum_by_meaning {X = X} e = record { V = X; all = record { cases = cases_by_meaning e; laws = laws_by_meaning e }; view = λ x. x }

abbrev pub one_of_by : {O X : Type 0} → OneOf O X → PartBy (Option X)
one_of_by e = record {
  at = λ g. one_of_part g (enum_by_meaning e);
  laws = λ g. one_of_laws g (enum_by_meaning e);
  blank = None;
  Owes = e.all.cases.Owes;
  Exact = e.all.cases.Exact;
  meaning_is = λ g m. map_same (g m);
  blank_is = λ g. refl;
  owes = λ g owes. owes;
  exact = λ g exact. exact;
}
