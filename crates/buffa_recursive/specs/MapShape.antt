-- A map of the message's own type, by its pairs, as what is told of the messages inside says.
-- Source: the protobuf encoding guide, "Maps" and "Submessages".
use Rattle.std.specs.Prelude.{◌+◌, true, List, []}
use Rattle.std.specs.BTreeMap.{insert_entry}
use Rattle.buffa_bytes.specs.Readings.{check_wire}
use Rattle.buffa_bytes.specs.declared.wire_type.WireType.TheVariants.{LengthDelimited}
use Rattle.buffa_map.specs.Codec.{Reading}
use Rattle.buffa_map.specs.Encoding.{AllHold}
use Rattle.buffa_map.specs.Message.{message_reading}
use Rattle.buffa_recursive.specs.MapKeys.{Keys}
use Rattle.buffa_fields.specs.Schema.{Shape}
use Rattle.buffa_fields.specs.facts.MapFacts.{map_stays}
use Rattle.buffa_fields.specs.MapFields.{PairTakesMemory, pair_cost, pair_taken}
use Rattle.buffa_fields.specs.Submessages.{FitsInside}
use Rattle.buffa_fields.specs.MapsOfMessages.{pair_levels, pair_records, pair_slots}
use Rattle.buffa_fields.specs.OrderedMaps.{KeysAscend}
use Rattle.buffa_fields.specs.Refusals.{RefusesPair}
use Rattle.buffa_recursive.specs.InnerMessages.{AreExactBy, Semantics, encoding_by}

-- how a message is read as the value of an entry
abbrev pub reading_by : {X : Type 0} → Semantics X → Reading X
reading_by w = message_reading w.blank w.merged w.cost

-- ---- the member, by its pairs
abbrev pub pairs_shape : {K X : Type 0} → Keys K → Semantics X → Shape (List (K × X)) (List (K × X))
pairs_shape keys w = record {
  whole = true;
  meaning = λ ps. ps;
  blank = [];
  takes = pair_taken keys.reading (reading_by w) (insert_entry keys.order);
  checks = λ n wire. check_wire n LengthDelimited wire;
  refuses = RefusesPair keys.reading (reading_by w) (keys.cost + w.each);
  asks = PairTakesMemory keys.reading (reading_by w);
  charge = pair_cost keys.reading (reading_by w) (keys.cost + w.each);
  records = pair_records keys.writing (encoding_by w);
  slots = pair_slots (encoding_by w) w.slots;
  levels = pair_levels w.levels;
  Exact = AreExactBy w;
  normal = λ ps. AllHold keys.Normal (FitsInside w.normal w.records) ps × KeysAscend keys.order ps;
  stays = map_stays keys.reading (reading_by w) (keys.cost + w.each);
}
