-- Words that contracts of extensions cite, under one name.
pub use Rattle.buffa_codec.specs.Decoded.{Adds, AddsSome, AddsSomeValues, AddsValues, HasByte, KeepsCapacity, LeavesIn, Refuses, SpendsIn, UsesVecRoom, bytes_held, last_read, one_in, string_held}
pub use Rattle.buffa_codec.specs.Packed.{numbers_in}
pub use Rattle.buffa_codec.specs.RecordsOfNumber.{sub, tagged, without}
pub use Rattle.buffa_ext.specs.SetsAndClears.{HoldsRecord, IsCleared, IsSet, IsSetUnread, KeepsRoom, RefusedAt, after, step_of}
pub use Rattle.buffa_ext.specs.Defaults.{IsDefaulted, IsRefused, ReadsNumber}
pub use Rattle.buffa_ext.specs.Messages.{MergesOne, MergesRecords, PartlyMergedRecord, StopsPartlyMerged, encodings_in}
pub use Rattle.buffa_codec.specs.Strict.{IsFaultOrFull}
pub use Rattle.buffa_wire.specs.NumberInRecord.{fixed32_in, fixed64_in, varint_in}
