-- A oneof is a part of a message. Source: the protobuf encoding guide, "Oneofs"; the protobuf language guide, "Oneof".
use Rattle.std.specs.Prelude.{◌≡◌, ℕ, Bool, not, max, List, [], Option, None}
use Rattle.std.specs.Option.{option_map}
use Rattle.buffa_fields.specs.UnknownsOfMembers.{Kept}
use Rattle.buffa_fields.specs.Cases.{Cases, CasesLaws, CaseWords, or_cases, if_there, none_of, single_case}
use Rattle.buffa_fields.specs.facts.CasesFacts.{or_laws, none_laws, single_laws}
use Rattle.buffa_fields.specs.UndeclaredFields.{AllNumbers}
use Rattle.buffa_fields.specs.Schema.{Seen, Shape}
use Rattle.buffa_fields.specs.MessageParts.{Part}
use Rattle.buffa_fields.specs.Values.{IfThere}
use Rattle.buffa_fields.specs.declared.meaning.Or.{Or}

-- the cases, and what is proved of them
pub record CaseList (V X : Type 0) : Type 1 where
  pub cases : Cases V X
  pub laws : CasesLaws cases

abbrev pub no_case : CaseList ⊥ (Unit {0})
no_case = record { cases = none_of; laws = none_laws }

-- Some cases, and others after them. Of many cases each is found in fewer steps, where some of them stand together.
abbrev pub some_cases : {V X W Y : Type 0} → CaseList V X → CaseList W Y → CaseList (Or V W) (Or X Y)
some_cases first others = record { cases = or_cases first.cases others.cases; laws = or_laws first.cases others.cases first.laws others.laws }

-- a case under a number, and those after it
abbrev pub case : {P A V B : Type 0} → ℕ → {s : Shape (Option P) (Option A)} {merges : Bool} → CaseWords s merges → CaseList V B → CaseList (Or P V) (Or A B)
case k {s} {merges} words others = some_cases (record { cases = single_case k s merges; laws = single_laws k s merges words }) others

-- An enum O, by its cases: each value of it has that of one case.
pub record OneOf (O X : Type 0) : Type 1 where
  pub V : Type 0
  pub all : CaseList V X
  pub view : O → V

abbrev pub enum_of : {O V X : Type 0} → CaseList V X → (O → V) → OneOf O X
enum_of {V = V} all view = record { V = V; all = all; view = view }

-- what the case that stands means, where one does; its records and its slots; and what was seen of it
abbrev pub case_means : {O X : Type 0} → OneOf O X → Option O → Option X
case_means e o = e.all.cases.meaning (option_map e.view o)

abbrev pub case_records : {O X : Type 0} → OneOf O X → Option O → Kept
case_records e o = if_there [] e.all.cases.records (case_means e o)

abbrev pub case_slots : {O X : Type 0} → OneOf O X → Option O → List ℕ
case_slots e o = if_there [] e.all.cases.slots (case_means e o)

abbrev pub case_seen : {O X : Type 0} → OneOf O X → Option O → Seen → Seen
case_seen e o z = if_there z (λ x. e.all.cases.seen (e.view x) z) o

module _ {M O X : Type 0} (get : M → Option O) (e : OneOf O X) where
  abbrev cases : Cases e.V X
  cases = e.all.cases

  abbrev pub one_of_part : Part M (Option X)
  one_of_part = record {
    meaning = λ m. case_means e (get m);
    blank = None;
    mine = cases.mine;
    sound = λ D keeps sound. cases.sound D sound;
    takes = λ adds d v n w p. option_map (λ x. (x, v.1)) (cases.takes d v.0 n w p);
    asks = λ left. cases.asks;
    charge = cases.charge;
    records = λ v. if_there [] cases.records v;
    slots = λ v. if_there [] cases.slots v;
    levels = λ v m kept. max (if_there 0 cases.levels v) m;
    normal = λ v. IfThere cases.normal v;
    WithUnknowns = λ kept. AllNumbers (λ n. not (cases.mine n)) kept;
    Same = λ a b. get b ≡ get a;
    Took = λ d old kept n w bs before r new keeps after rest. cases.Took (λ o. option_map e.view o) d (get old) n w bs before r (get new) after rest;
    Others = λ S E a b. S a b;
    seen = λ m z. case_seen e (get m) z;
    Owes = cases.Owes;
    Exact = cases.Exact;
    Fine = cases.Fine;
  }
