-- What a message with a oneof says of a field that it took, as laws tell it. Source: the protobuf encoding guide, "Oneofs".
use Rattle.std.specs.Prelude.{◌≡◌, ℕ, List, Option, Result, Err}
use Rattle.std.specs.Option.{option_map}
use Rattle.buffa_bytes.specs.declared.error.DecodeError.{DecodeError}
use Rattle.buffa_bytes.specs.declared.wire_type.WireType.{WireType}
use Rattle.buffa_wire.specs.BudgetLeft.{BudgetLeft}
use Rattle.buffa_wire.specs.Message.{FieldTaken}
use Rattle.buffa_fields.specs.Cases.{Cases}
use Rattle.buffa_fields.specs.Schema.{Choice, Schema}
use Rattle.buffa_recursive.specs.OneOfMeaning.{TookByMeaning}
use Rattle.buffa_fields.specs.OneOfParts.{OneOf, case_means}

-- the case of the number takes it, and the others stay; or they take it, and the oneof stays
abbrev pub CaseOrOthers : {M O X B : Type 0} → (M → Option O) → OneOf O X → Schema M B → FieldTaken M
CaseOrOthers get e l d old n w bs before r new after rest =
    Choice (e.all.cases.mine n) (e.all.cases.Took (λ o. option_map e.view o) d (get old) n w bs before r (get new) after rest × l.Same old new)
    ((get new ≡ get old) × l.Taken d old n w bs before r new after rest)

-- the same of a oneof of which no more is told than what its case means: where the others take a field, it means what it did
abbrev pub CaseByMeaningOrOthers : {M O X B : Type 0} → (M → Option O) → OneOf O X → Schema M B → FieldTaken M
CaseByMeaningOrOthers get e l d old n w bs before r new after rest =
    Choice (e.all.cases.mine n) (TookByMeaning e d (case_means e (get old)) n w bs before r (case_means e (get new)) after rest × l.Same old new)
    ((case_means e (get new) ≡ case_means e (get old)) × l.Taken d old n w bs before r new after rest)

-- of each field of this number that is refused this is said, by what stood and what stands
abbrev pub RefusesCase : {O V X : Type 0} → Cases V X → (Option O → Option V) → ℕ → (Option O → Option O → Type 0) → Type 0
RefusesCase {O} c at k Says =
    (d : ℕ) (old : Option O) (w : WireType) (bs : List ℕ) (before : BudgetLeft) (e : DecodeError) (new : Option O) (after : BudgetLeft) (rest : List ℕ) →
    c.Took at d old k w bs before (let r : Result (Unit {0}) DecodeError = Err e in r) new after rest → Says old new
