-- What is proved of messages in fields, whatever the framing; and that both framings hold messages.
use Rattle.std.proofs.Common.{◌≡◌, inl, inr, ℕ, suc, ◌-◌, ◌==◌, ◌≤◌, true, List, [], ◌++◌, length, arith, Option, Some, None, refl, sym, ap, ◌∙◌, append_assoc, append-nil}
use Rattle.std.specs.List.{AllByRecursion}
use Rattle.buffa_bytes.proofs.FieldLemmas.{payload_taken, same_refl}
use Rattle.buffa_bytes.specs.declared.wire_type.WireType.TheVariants.{EndGroup, LengthDelimited, StartGroup}
use Rattle.buffa_bytes.specs.Field.{Payload}
use Rattle.buffa_bytes.specs.Readings.{delimited_at, skip_at, same_wire}
use Rattle.buffa_bytes.specs.Number.{IsNumber}
use Rattle.buffa_bytes.specs.Values.{delimited_encoding, tag_encoding}
use Rattle.buffa_bytes.specs.Varint.{varint_encoding}
use Rattle.buffa_wire.proofs.SpentLemmas.{is_there}
use Rattle.buffa_wire.specs.BudgetLeft.{BudgetLeft, plus, units}
use Rattle.buffa_wire.specs.Encoding.{payload_encoding, records_encoding, wire_of}
use Rattle.buffa_wire.specs.Parse.{AreValid}
use Rattle.buffa_wire.specs.ReadableFacts.{Readable, ReadableFieldData}
use Rattle.buffa_wire.specs.Records.{FieldData, field_data_height, records_of}
use Rattle.buffa_wire.specs.Takes.{ReadsBack, Stays, Taker}
use Rattle.buffa_fields.specs.facts.ReadBackFacts.{no_pieces}
use Rattle.buffa_fields.specs.Framing.{Frame, HoldsMessages, Messages, cost_as, field_data_in, each_cost_as, taken_as}
use Rattle.buffa_fields.specs.Framings.{delimited, grouped}
use Rattle.buffa_fields.specs.facts.GroupFacts.{group_again, inside_stays}
use Rattle.buffa_fields.specs.Groups.{group_body, group_merged}
use Rattle.buffa_fields.specs.facts.InsideFacts.{all_inside_back, delimited_alone, inside_back, level_there, payload_stays, wire_stays}
use Rattle.buffa_fields.specs.facts.LevelKindFacts.{behind_low, group_low, message_low, there_low}
use Rattle.buffa_fields.specs.Levels.{AreExactLevels, IsTakenWritten}
use Rattle.buffa_fields.specs.Lists.{element_records}
use Rattle.buffa_fields.specs.MemberRecords.{explicit_records}
use Rattle.buffa_fields.specs.Submessages.{FitsInside, inside, message_levels, message_merged, taken_behind, taken_there}
use Rattle.buffa_fields.specs.facts.SubmessageFacts.{message_again}
use Rattle.buffa_fields.specs.RepeatedMessages.{messages_levels}
use Rattle.buffa_fields.specs.facts.ValidRecordFacts.{element_valid, explicit_valid}
use Rattle.buffa_fields.specs.Values.{IfThere}

module _ (f : Frame) (holds : HoldsMessages f) where
  -- ---- costs
  pub one_stays : (cost : ℕ → List ℕ → BudgetLeft) → Stays (cost_as f.wire (f.cost cost))
  unfolding cost_as
  one_stays cost = wire_stays f.wire (f.cost cost) (holds.stays cost)

  pub each_stays : (each : ℕ) (cost : ℕ → List ℕ → BudgetLeft) → Stays (each_cost_as f.wire each (f.cost cost))
  unfolding each_cost_as
  each_stays each cost = wire_stays f.wire (λ d bs. plus (units each) (f.cost cost d bs)) (λ d n p x h. ap (plus (units each)) (holds.stays cost d n p x h))

  module _ {X : Type 0} (m : Messages X) where
    abbrev field_data : X → FieldData
    field_data = field_data_in f m

    abbrev takes : Taker X
    takes = taken_as f.wire (f.makes m.merged)

    abbrev IsNormal : X → Type 0
    IsNormal v = f.Normal (m.normal v) (m.records v)

    -- ---- it reads back
    again : (n : ℕ) → IsNumber n → (d : ℕ) (v : X) → ReadableFieldData (field_data v) → IsNormal v → suc (m.levels v) ≤ d → Payload d n f.wire (payload_encoding n (field_data v)) × (takes d m.blank n f.wire (payload_encoding n (field_data v)) ≡ Some v)
    unfolding taken_as
    again n number d v fits normal low = let a = holds.back m n number d v fits normal low in (a.0, rw (same_refl f.wire) a.1)

    spelled : (n : ℕ) (v : X) → tag_encoding n (wire_of (field_data v)) ++ payload_encoding n (field_data v) ≡ tag_encoding n f.wire ++ payload_encoding n (field_data v)
    spelled n v = ap (λ w. tag_encoding n w ++ payload_encoding n (field_data v)) (holds.wire_is (m.encoding v) (m.records v))

    pub there_valid : (n : ℕ) → IsNumber n → (v : Option X) → IfThere IsNormal v → AreValid (records_of (explicit_records field_data n v))
    there_valid = explicit_valid field_data IsNormal (holds.valid m)

    pub behind_valid : (n : ℕ) → IsNumber n → (vs : List X) → AllByRecursion IsNormal vs → AreValid (records_of (element_records field_data n vs))
    behind_valid = element_valid field_data IsNormal (holds.valid m)

    pub there_back : (n : ℕ) → IsNumber n → (d : ℕ) (v : Option X) → Readable (records_of (explicit_records field_data n v)) → IfThere IsNormal v → message_levels m.levels v ≤ d →
        ReadsBack (taken_there m.blank takes) (λ k. k == n) d None (records_encoding (explicit_records field_data n v)) v
    unfolding explicit_records
    there_back n number d None fits normal low = no_pieces (taken_there m.blank takes) (λ k. k == n) d None
    there_back n number d (Some v) fits normal low =
        inside_back takes m.blank field_data m.levels IsNormal n number f.wire (λ v. payload_encoding n (field_data v)) (spelled n) (again n number) d v fits.1 normal low

    pub behind_back : (n : ℕ) → IsNumber n → (d : ℕ) (vs : List X) → Readable (records_of (element_records field_data n vs)) → AllByRecursion IsNormal vs → messages_levels m.levels vs ≤ d →
        ReadsBack (taken_behind m.blank takes) (λ k. k == n) d [] (records_encoding (element_records field_data n vs)) vs
    behind_back n number d vs fits normal low =
        all_inside_back takes m.blank field_data m.levels IsNormal n number f.wire (λ v. payload_encoding n (field_data v)) (spelled n) (again n number) d vs fits normal low

    -- ---- how deep it nests
    module _ (exact : AreExactLevels m.merged m.encoding m.records m.normal m.levels) where
      one_low : (d n : ℕ) (old v u : X) → IsNumber n → ReadableFieldData (field_data v) → field_data_height (field_data v) ≤ d → IsNormal v → takes d old n (wire_of (field_data v)) (payload_encoding n (field_data v)) ≡ Some u → suc (m.levels v) ≤ d
      unfolding taken_as
      one_low d n old v u number fits low normal h =
          let same : same_wire f.wire (wire_of (field_data v)) ≡ true = ap (same_wire f.wire) (holds.wire_is (m.encoding v) (m.records v)) ∙ same_refl f.wire in
          let is : takes d old n (wire_of (field_data v)) (payload_encoding n (field_data v)) ≡ f.makes m.merged d old (payload_encoding n (field_data v)) = rw same refl in
          holds.least m exact n number d old v u fits low normal (sym is ∙ h)

      pub there_least : (k d : ℕ) (v : Option X) → IfThere IsNormal v → AllByRecursion (IsTakenWritten (taken_there m.blank takes) d) (explicit_records field_data k v) → message_levels m.levels v ≤ d
      unfolding explicit_records
      there_least k d None normal h = omega arith
      there_least k d (Some v) normal h = there_low takes m.blank field_data m.levels IsNormal one_low d k v normal h.0

      pub behind_least : (k d : ℕ) (vs : List X) → AllByRecursion IsNormal vs → AllByRecursion (IsTakenWritten (taken_behind m.blank takes) d) (element_records field_data k vs) → messages_levels m.levels vs ≤ d
      behind_least k d vs normal h = behind_low takes m.blank field_data m.levels IsNormal one_low d k vs normal h

-- ---- a length, and so many bytes
pub delimited_holds : HoldsMessages delimited
unfolding message_merged
delimited_holds = record {
  wire_is = λ e rs. refl;
  spelled = λ n e rs is.
      let tag = tag_encoding n LengthDelimited in
      let len = varint_encoding (length e) in
      ap (λ (z : List ℕ). (tag ++ len) ++ z) (append-nil e) ∙ append_assoc tag len e ∙ sym (append-nil (tag ++ delimited_encoding e));
  stays = payload_stays;
  asks_more = λ d n w bs may. (may.0, may.1, is_there (delimited_at bs) (may.2, may.3) may.4);
  asks_read = λ merged d n old new bs p rest h split is.
      let u = delimited_alone d n LengthDelimited p rest bs refl h split in
      (refl, level_there merged d old new u.0 (ap (inside merged d old) (sym u.2) ∙ is), is_there (delimited_at bs) (u.0, rest) u.1);
  valid = λ m v normal. tt;
  back = λ m n number d v fits normal low.
      message_again m.merged m.blank m.encoding m.levels (FitsInside m.normal m.records) (λ d v ok low. m.back d v ok.1 ok.0 low) n number d v fits normal low;
  least = λ m exact n number d old v u fits low normal is.
      message_low m.merged m.blank m.encoding m.records m.normal m.levels exact d n old v u number fits low normal is;
}

-- ---- a group
pub grouped_holds : HoldsMessages grouped
unfolding group_merged
grouped_holds = record {
  wire_is = λ e rs. refl;
  spelled = λ n e rs is.
      let start = tag_encoding n StartGroup in
      let end = tag_encoding n EndGroup in
      ap (λ (z : List ℕ). start ++ (z ++ end)) is ∙ sym (append-nil (start ++ (records_encoding rs ++ end)));
  stays = inside_stays;
  asks_more = λ d n w bs may. (may.0, may.1, inl may.2);
  asks_read = λ merged d n old new bs p rest h split is.
      (refl, level_there merged d old new (group_body (d - 1) p) is, inr (is_there (skip_at d n StartGroup bs) rest (payload_taken d n StartGroup bs rest (p, h, split))));
  valid = λ m v normal. m.valid v normal;
  back = λ m n number d v fits normal low.
      group_again m.merged m.blank m.encoding m.records m.levels m.normal m.as_records m.fields m.back n number d v fits normal low;
  least = λ m exact n number d old v u fits low normal is.
      group_low m.merged m.blank m.encoding m.records m.normal m.levels exact m.as_records d n old v u number fits low normal is;
}
