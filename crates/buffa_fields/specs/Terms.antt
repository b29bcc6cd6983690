-- Words that contracts of messages, of map fields and of the wire cite, under one name.
pub use Rattle.buffa_bytes.specs.PayloadValue.{HasPayloadValue, payload_value_at}
pub use Rattle.buffa_bytes.specs.Field.{SomeField}
pub use Rattle.buffa_bytes.specs.Join.{Join}
pub use Rattle.buffa_bytes.specs.Unread.{LeavesUnlessFull, past_no_payload, past_no_tag, past_no_delimited, past_no_varint, IsFrontOf, IsTailOf, MayBeCut, bytes_read}
pub use Rattle.buffa_bytes.specs.Number.{IsNumber, wire_kind, wire_number}
pub use Rattle.buffa_bytes.specs.Pieces.{joined}
pub use Rattle.buffa_bytes.specs.Pinned.{IsCopied, SameIsOne}
pub use Rattle.buffa_bytes.specs.Readings.{check_wire, delimited_at, skip_at, tag_at, taken, varint_at, FullOnlyIf, Gives, GivesUnlessFull}
pub use Rattle.buffa_bytes.specs.Scalars.{bool_at, bool_encoding, fixed32_at, fixed32_encoding, fixed64_at, fixed64_encoding, int32_at, int32_encoding, int64_at, int64_encoding, sfixed32_at, sfixed32_encoding, sfixed64_at, sfixed64_encoding, sint32_at, sint32_encoding, sint64_at, sint64_encoding, uint32_at, uint32_encoding, uint64_at, uint64_encoding, unzigzag, zigzag}
pub use Rattle.buffa_bytes.specs.Delimited.{bytes_as, string_as, text_as}
pub use Rattle.buffa_bytes.specs.Values.{delimited_encoding, string_at, tag_encoding}
pub use Rattle.buffa_bytes.specs.Varint.{varint_encoding}
pub use Rattle.buffa_bytes.specs.Written.{UsesRoom, Writes}
pub use Rattle.buffa_wire.specs.BudgetLeft.{BudgetLeft, Covers, PaysAtMost, UnknownTaken, UnknownsSpent, budget_left, defaults, nothing, plus}
pub use Rattle.buffa_wire.specs.Cache.{advanced, appended}
pub use Rattle.buffa_wire.specs.StoredRecords.{coded_field_data}
pub use Rattle.buffa_wire.specs.Enums.{DeclaresBlank, numbers, open_number}
pub use Rattle.buffa_wire.specs.Message.{BeginsField, FieldRefused, IsMergedAlone, MergesBytes, MergesField, MergesInside, MessageFault, PartlyMerged, PartlyMergedInside, TakesMessageField, Unchanged, cost_of_payload}
pub use Rattle.buffa_wire.specs.Parse.{AreValid, Fits}
pub use Rattle.buffa_wire.specs.Passes.{IsNext, IsSized, IsWritten}
pub use Rattle.buffa_wire.specs.RecordReading.{ListTakesMemory, RecordTakesMemory, field_in, list_at}
pub use Rattle.buffa_wire.specs.Records.{FieldData, IsEmpty, IsNumeric, bytes, records_of}
pub use Rattle.buffa_wire.specs.Encoding.{records_encoding, wire_of}
pub use Rattle.buffa_wire.specs.RecordsOfValues.{AnswersRecords, CalledAtRecord, field_data_of, record_of, records_in}
pub use Rattle.buffa_map.specs.Calls.{MergesMessages, SizesMessages, WritesMapField, WritesMessages}
pub use Rattle.buffa_map.specs.Codec.{AlwaysDeclared, HoldsNothing, IsWhole, Reading, RefusesValue, Spends, ReadingTakesMemory, Writing, is_known, level, value_at}
pub use Rattle.buffa_map.specs.Merge.{MergesEntry, ReadsRun, RefusesEntry, Rules, State, RefusesRun, rules, state}
pub use Rattle.buffa_map.specs.PassedList.{records_before, records_after, capacity_before, capacity_after}
pub use Rattle.buffa_map.specs.MessageField.{IsFieldSized, IsFieldWritten, KeepsMessageRoom, UsesFieldRoom, field_slots}
pub use Rattle.buffa_map.specs.Pairs.{InOrder, ListsOnce, SamePairs, mean, means, put}
pub use Rattle.buffa_map.specs.Encoding.{AllHold, HasEncoding, entry_encoding, field_size, field_encoding, record_encoding, saturated}
pub use Rattle.buffa_map.specs.Rewrite.{FieldWriting, ForEntriesOf, IfNotDecoded, IfNotEncoded, MatchRefusal, RefusesDecoding, RefusesEncoding, RewritesRun, StopsRewrite, WhereDecoded, field_writing, rewrite_encoding}
unfoldable pub use Rattle.buffa_fields.specs.UnknownsOfMembers.{TookWithUnknowns}
unfoldable pub use Rattle.buffa_fields.specs.Schema.{AsksAsSaid, RefusesAsSaid, TakesAsSaid, TellsWrongType}
pub use Rattle.buffa_fields.specs.Schema.{Took}
pub use Rattle.buffa_fields.specs.facts.BlockVisitFacts.{both_waited, first_comes, here, not_here, second_comes}
pub use Rattle.buffa_fields.specs.Blocks.{TakesBlock, TakesWithUnknowns, no_unknowns, block, block_of, both_blocks, eight, five, four, one, one_case, one_with_unknowns, seven, six, three, two}
pub use Rattle.buffa_fields.specs.Cases.{other_of, this_of}
pub use Rattle.buffa_fields.specs.Levels.{AreExactLevels}
pub use Rattle.buffa_fields.specs.MemberList.{field, field_with_unknowns, keep_unknown, skip_unknown}
pub use Rattle.buffa_fields.specs.NamingOneOfs.{one_of}
pub use Rattle.buffa_fields.specs.OneOfStored.{coded_or}
pub use Rattle.buffa_fields.specs.OneOfParts.{case, enum_of, no_case, some_cases}
pub use Rattle.buffa_fields.specs.facts.SchemaFacts.{chosen, not_chosen}
