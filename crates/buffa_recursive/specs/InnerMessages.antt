-- What is told of the messages inside a message of their own type, for its layout to be said by it.
-- Source: the protobuf encoding guide, "Submessages".
use Rattle.std.specs.Prelude.{◌≡◌, ◌≤◌, ℕ, true, List, [], Option, Some, None, refl}
use Rattle.std.specs.List.{AllByRecursion}
use Rattle.buffa_bytes.specs.Field.{SomeField}
use Rattle.buffa_bytes.specs.Readings.{check_wire}
use Rattle.buffa_bytes.specs.Join.{Join}
use Rattle.buffa_bytes.specs.declared.wire_type.WireType.TheVariants.{LengthDelimited}
use Rattle.buffa_wire.specs.BudgetLeft.{BudgetLeft}
use Rattle.buffa_wire.specs.Encoding.{records_encoding}
use Rattle.buffa_wire.specs.Parse.{AreValid, Fits}
use Rattle.buffa_wire.specs.Records.{FieldData, bytes, records_of}
use Rattle.buffa_fields.specs.Framing.{Messages, each_cost_as, taken_as}
use Rattle.buffa_fields.specs.facts.FramingFacts.{delimited_holds, each_stays}
use Rattle.buffa_fields.specs.Framings.{delimited}
use Rattle.buffa_fields.specs.Schema.{Shape}
use Rattle.buffa_fields.specs.Levels.{AreExactLevels}
use Rattle.buffa_fields.specs.Lists.{element_records}
use Rattle.buffa_fields.specs.MemberRecords.{explicit_records}
use Rattle.buffa_fields.specs.Submessages.{FitsInside, message_levels, message_slots, taken_behind, taken_there}
use Rattle.buffa_fields.specs.Refusals.{RefusesBoxed}
use Rattle.buffa_fields.specs.RepeatedMessages.{MessagesTakeMemory, messages_levels, messages_slots}
use Rattle.buffa_fields.specs.Values.{IfThere}
use Rattle.buffa_recursive.specs.TakenByAnother.{taken_through}

-- How they are merged and written, at every depth, and that normal ones have valid records and read back.
pub record Semantics (X : Type 0) : Type 1 where
  -- the units of element memory that one costs in a list, or in a box
  pub each : ℕ
  pub blank : X
  pub merged : ℕ → X → List ℕ → Option X
  pub cost : ℕ → List ℕ → BudgetLeft
  pub records : X → List (ℕ × FieldData)
  pub slots : X → List ℕ
  pub levels : X → ℕ
  pub normal : X → Type 0
  pub fields : (d : ℕ) (v u : X) (b : List ℕ) → merged d v b ≡ Some u → Join (SomeField d) b
  pub valid : (v : X) → normal v → AreValid (records_of (records v))
  pub back : (d : ℕ) (v : X) → Fits (records_of (records v)) → normal v → levels v ≤ d → merged d blank (records_encoding (records v)) ≡ Some v

module _ {X : Type 0} (w : Semantics X) where
  abbrev pub encoding_by : X → List ℕ
  encoding_by x = records_encoding (w.records x)

  -- the same words, as those of any type of messages
  abbrev pub messages_by : Messages X
  messages_by = record {
    merged = w.merged;
    blank = w.blank;
    encoding = encoding_by;
    records = w.records;
    levels = w.levels;
    normal = w.normal;
    as_records = λ v. refl;
    fields = w.fields;
    valid = w.valid;
    back = w.back;
  }

  -- their levels are exact
  abbrev pub AreExactBy : Type 0
  AreExactBy = AreExactLevels w.merged encoding_by w.records w.normal w.levels

  -- ---- a list of them: each payload is merged into a default message, which is put behind the others
  abbrev pub list_shape : Shape (List X) (List X)
  list_shape = record {
    whole = true;
    meaning = λ xs. xs;
    blank = [];
    takes = taken_behind w.blank (taken_as LengthDelimited (delimited.makes w.merged));
    checks = λ n wire. check_wire n LengthDelimited wire;
    refuses = λ d old n wire bs left e new. old ≡ new;
    asks = MessagesTakeMemory;
    charge = each_cost_as LengthDelimited w.each (delimited.cost w.cost);
    records = element_records (λ x. bytes (encoding_by x));
    slots = messages_slots encoding_by w.slots;
    levels = messages_levels w.levels;
    Exact = AreExactBy;
    normal = λ xs. AllByRecursion (FitsInside w.normal w.records) xs;
    stays = each_stays delimited delimited_holds w.each w.cost;
  }

  -- ---- one that may be there
  abbrev pub child_shape : Shape (Option X) (Option X)
  child_shape = record {
    whole = true;
    meaning = λ o. o;
    blank = None;
    takes = taken_there w.blank (taken_as LengthDelimited (delimited.makes w.merged));
    checks = λ n wire. check_wire n LengthDelimited wire;
    refuses = RefusesBoxed w.each w.blank w.merged w.cost;
    asks = MessagesTakeMemory;
    charge = each_cost_as LengthDelimited w.each (delimited.cost w.cost);
    records = explicit_records (λ x. bytes (encoding_by x));
    slots = message_slots encoding_by w.slots;
    levels = message_levels w.levels;
    Exact = AreExactBy;
    normal = λ o. IfThere (FitsInside w.normal w.records) o;
    stays = each_stays delimited delimited_holds w.each w.cost;
  }

-- ---- a value that is told in another way
-- by what it means
abbrev pub shape_by_meaning : {P A : Type 0} → Shape P A → Shape A A
shape_by_meaning s = record {
  whole = s.whole;
  meaning = λ a. a;
  blank = s.blank;
  takes = s.takes;
  checks = s.checks;
  refuses = s.refuses;
  asks = s.asks;
  charge = s.charge;
  records = s.records;
  slots = s.slots;
  levels = s.levels;
  Exact = s.Exact;
  normal = s.normal;
  stays = s.stays;
}

-- by another value, from which it is had again
abbrev pub as_other : {A B : Type 0} (to : A → B) (from : B → A) → Shape A A → Shape B B
as_other to from s = record {
  whole = s.whole;
  meaning = λ b. b;
  blank = to s.blank;
  takes = taken_through to from s.takes;
  checks = s.checks;
  refuses = λ d old n wire bs left e new. s.refuses d (from old) n wire bs left e (from new);
  asks = s.asks;
  charge = s.charge;
  records = λ k b. s.records k (from b);
  slots = λ b. s.slots (from b);
  levels = λ b. s.levels (from b);
  Exact = s.Exact;
  normal = λ b. s.normal (from b);
  stays = s.stays;
}

-- by another value, from which it is had again, where that has no more than it
abbrev pub lossless : {A B : Type 0} (to : A → B) (from : B → A) → Shape A A → Shape B B
lossless to from s = record {
  whole = s.whole;
  meaning = λ b. b;
  blank = to s.blank;
  takes = taken_through to from s.takes;
  checks = s.checks;
  refuses = λ d old n wire bs left e new. s.refuses d (from old) n wire bs left e (from new);
  asks = s.asks;
  charge = s.charge;
  records = λ k b. s.records k (from b);
  slots = λ b. s.slots (from b);
  levels = λ b. s.levels (from b);
  Exact = s.Exact;
  normal = λ b. (to (from b) ≡ b) × s.normal (from b);
  stays = s.stays;
}
