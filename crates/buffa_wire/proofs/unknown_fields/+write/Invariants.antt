use Rattle.std.proofs.Common.{◌≡◌, ◌+◌, ◌≤◌, ◌++◌, length, take}
use Rattle.buffa_wire.specs.RecordsOfValues.{records_in}
use Rattle.buffa_wire.specs.Encoding.{records_encoding}
use Rattle.buffa_wire.proofs.unknown_fields.+write.Given as goal

abbrev pub invariant-UnknownFields::write_to-loop-field : goal.invariant-UnknownFields::write_to-loop-field
invariant-UnknownFields::write_to-loop-field g l =
    let encoding = records_encoding (records_in (take l.field-index l.field-items)) in
    record {
      written : g.S.EncodeSink.written l.sink ≡ g.S.EncodeSink.written l.fn.sink ++ encoding;
      room : g.S.EncodeSink.room l.fn.sink ≤ g.S.EncodeSink.room l.sink + length encoding;
    }
