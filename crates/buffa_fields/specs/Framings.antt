-- The two framings. Source: the protobuf encoding guide, "Submessages" and "Groups".
use Rattle.std.specs.Prelude.{◌-◌, [], ◌++◌}
use Rattle.buffa_bytes.specs.declared.wire_type.WireType.TheVariants.{EndGroup, LengthDelimited, StartGroup}
use Rattle.buffa_bytes.specs.Readings.{delimited_at}
use Rattle.buffa_bytes.specs.Values.{tag_encoding}
use Rattle.buffa_bytes.specs.Varint.{varint_encoding}
use Rattle.buffa_wire.specs.Message.{BeginsField, MessageFault, cost_in, cost_of_payload, merged_in}
use Rattle.buffa_wire.specs.Parse.{Fits}
use Rattle.buffa_wire.specs.Records.{bytes, group, records_of}
use Rattle.buffa_fields.specs.Framing.{Frame}
use Rattle.buffa_fields.specs.Groups.{GroupTakesMemory, group_body}
use Rattle.buffa_fields.specs.Submessages.{MessageTakesMemory, inside}
use Rattle.buffa_fields.specs.Refusals.{GroupFirstFault, IsDelimited}
use Rattle.buffa_fields.specs.RepeatedGroups.{GroupsTakeMemory}
use Rattle.buffa_fields.specs.RepeatedMessages.{MessagesTakeMemory}

-- a length, and so many bytes
abbrev pub delimited : Frame
delimited = record {
  wire = LengthDelimited;
  makes = λ merged d v p. inside merged d v (delimited_at p);
  cost = λ cost d bs. cost_of_payload cost d (delimited_at bs);
  asks = MessageTakesMemory;
  asks_new = MessagesTakeMemory;
  There = IsDelimited;
  Fault = λ merged cost d old n bs left e. MessageFault merged cost d old bs left e;
  field_data = λ encoding rs. bytes encoding;
  head = λ n len. tag_encoding n LengthDelimited ++ varint_encoding len;
  tail = λ n. [];
  Normal = λ A rs. A × Fits (records_of rs);
}

-- the fields up to an end tag
abbrev pub grouped : Frame
grouped = record {
  wire = StartGroup;
  makes = λ merged d v p. merged_in merged d v (group_body (d - 1) p);
  cost = λ cost d bs. cost_in cost d (group_body (d - 1) bs);
  asks = GroupTakesMemory;
  asks_new = GroupsTakeMemory;
  There = BeginsField;
  Fault = λ merged cost d old n bs left e. GroupFirstFault d n bs e;
  field_data = λ encoding rs. group (records_of rs);
  head = λ n len. tag_encoding n StartGroup;
  tail = λ n. tag_encoding n EndGroup;
  Normal = λ A rs. A;
}
