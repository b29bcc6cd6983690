-- A oneof by what it means: values that mean the same are the same. Source: the protobuf encoding guide, "Oneofs".
use Rattle.std.specs.Prelude.{◌≡◌, ℕ, List, Option, Result}
use Rattle.std.specs.Option.{option_map}
use Rattle.buffa_bytes.specs.declared.error.DecodeError.{DecodeError}
use Rattle.buffa_bytes.specs.declared.wire_type.WireType.{WireType}
use Rattle.buffa_wire.specs.BudgetLeft.{BudgetLeft}
use Rattle.buffa_fields.specs.Cases.{Cases}
use Rattle.buffa_fields.specs.Schema.{more}
use Rattle.buffa_fields.specs.OneOfParts.{OneOf, case_means}

module _ {O X : Type 0} (e : OneOf O X) where
  abbrev cases : Cases e.V X
  cases = e.all.cases

  -- its cases; the case of a number took a field where it took it of some values that mean this, before and after
  abbrev pub cases_by_meaning : Cases X X
  cases_by_meaning = record {
    meaning = λ x. x;
    mine = cases.mine;
    sound = cases.sound;
    takes = cases.takes;
    asks = cases.asks;
    charge = cases.charge;
    records = cases.records;
    slots = cases.slots;
    levels = cases.levels;
    normal = cases.normal;
    Took = λ at d old n w bs before r new after rest.
        (o : Option O) × (p : Option O) × (case_means e o ≡ at old) × (case_means e p ≡ at new) × cases.Took (λ x. option_map e.view x) d o n w bs before r p after rest;
    seen = λ x z. more (cases.records x) (cases.slots x) z;
    lent = cases.slots;
    Owes = cases.Owes;
    Exact = cases.Exact;
    Fine = cases.Fine;
  }

  -- the case of the number took the field, of what the oneof meant, and of what it means then
  abbrev pub TookByMeaning : ℕ → Option X → ℕ → WireType → List ℕ → BudgetLeft → Result (Unit {0}) DecodeError → Option X → BudgetLeft → List ℕ → Type 0
  TookByMeaning d old n w bs before r new after rest = cases_by_meaning.Took (λ x. option_map (λ y. y) x) d old n w bs before r new after rest
