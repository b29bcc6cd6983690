-- Words that contracts of map fields cite, under one name.
pub use Rattle.buffa_map.specs.Calls.{MergesMessages, SizesMessages, WritesMapField, WritesMessages}
pub use Rattle.buffa_map.specs.Codec.{AlwaysDeclared, HoldsNothing, IsWhole, Reading, RefusesValue, Spends, ReadingTakesMemory, Writing, is_known, level, value_at}
pub use Rattle.buffa_map.specs.Merge.{MergesEntry, ReadsRun, RefusesEntry, Rules, State, RefusesRun, rules, state}
pub use Rattle.buffa_map.specs.PassedList.{records_before, records_after, capacity_before, capacity_after}
pub use Rattle.buffa_map.specs.MessageField.{IsFieldSized, IsFieldWritten, KeepsMessageRoom, UsesFieldRoom, field_slots}
pub use Rattle.buffa_map.specs.Pairs.{InOrder, ListsOnce, SamePairs, mean, means, put}
pub use Rattle.buffa_map.specs.Encoding.{AllHold, HasEncoding, entry_encoding, field_size, field_encoding, record_encoding, saturated}
pub use Rattle.buffa_map.specs.Rewrite.{FieldWriting, ForEntriesOf, IfNotDecoded, IfNotEncoded, MatchRefusal, RefusesDecoding, RefusesEncoding, RewritesRun, StopsRewrite, WhereDecoded, field_writing, rewrite_encoding}
