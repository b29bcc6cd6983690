-- Messages as groups. Source: the protobuf encoding guide, "Groups".
use Rattle.std.specs.Prelude.{◌≡◌, ◌<◌, ℕ, ◌-◌, List, [], ◌++◌, Option, Result, Ok, Err, if◌then◌else◌}
use Rattle.buffa_bytes.specs.declared.error.DecodeError.{DecodeError}
use Rattle.buffa_bytes.specs.declared.wire_type.WireType.{WireType}
use Rattle.buffa_bytes.specs.declared.wire_type.WireType.TheVariants.{EndGroup, StartGroup}
use Rattle.buffa_bytes.specs.Readings.{same_wire, skip_at, tag_at}
use Rattle.buffa_bytes.specs.Scan.{Scanned, scan}
use Rattle.buffa_bytes.specs.Scan.Scanned.{ends, goes}
use Rattle.buffa_wire.specs.BudgetLeft.{BudgetLeft}
use Rattle.buffa_wire.specs.Message.{BeginsField, cost_in, merged_in}
use Rattle.buffa_wire.specs.Records.{FieldData, group, records_of}
use Rattle.buffa_fields.specs.Framing.{cost_as, taken_as}
use Rattle.buffa_fields.specs.MemberRecords.{explicit_records}
use Rattle.buffa_wire.specs.Takes.{Asks, Charge, Taker, front_of}

-- the field up to what follows it, and then the fields in that
abbrev pub body_behind : List ℕ → Result (List ℕ) DecodeError → Scanned (Unit {0}) (List ℕ)
body_behind bs (Ok rest) = goes tt rest (λ more. front_of bs rest ++ more)
body_behind bs (Err e) = ends bs

abbrev pub body_step : ℕ → List ℕ → Result (ℕ × WireType × List ℕ) DecodeError → Scanned (Unit {0}) (List ℕ)
body_step d bs (Ok t) = if same_wire EndGroup t.1 then ends [] else body_behind bs (skip_at d t.0 t.1 t.2)
body_step d bs (Err e) = ends bs

-- The body of the group whose start tag was read: the fields before its end tag, with groups nested at most d deep; all
-- bytes, where what is no field comes before that.
unfoldable pub group_body : ℕ → List ℕ → List ℕ
group_body d bs = scan (λ _ rest. body_step d rest (tag_at rest)) [] tt bs

-- what the body of a group makes of the message that stands, one level down
unfoldable pub group_merged : {X : Type 0} → (ℕ → X → List ℕ → Option X) → Taker X
unfolding taken_as
group_merged merged = taken_as StartGroup (λ d v p. merged_in merged d v (group_body (d - 1) p))

-- at a depth, what it costs
unfoldable pub group_cost : (ℕ → List ℕ → BudgetLeft) → Charge
unfolding cost_as
group_cost cost = cost_as StartGroup (λ d bs. cost_in cost d (group_body (d - 1) bs))

-- it takes memory where a level is left, and a field begins the group
abbrev pub GroupTakesMemory : Asks
GroupTakesMemory d n w bs = (w ≡ StartGroup) × (0 < d) × BeginsField bs

module _ {X : Type 0} (records : X → List (ℕ × FieldData)) where
  -- the group of a message
  abbrev pub group_field_data : X → FieldData
  group_field_data v = group (records_of (records v))

  -- its record, where it is there
  abbrev pub group_records : ℕ → Option X → List (ℕ × FieldData)
  group_records = explicit_records group_field_data
