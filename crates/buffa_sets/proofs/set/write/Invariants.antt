use Rattle.std.proofs.Common.{◌≡◌, ◌+◌, ◌≤◌, ◌++◌, length, take}
use Rattle.buffa_wire.specs.RecordsOfValues.{records_in}
use Rattle.buffa_sets.specs.Set.{set_encoding}
use Rattle.buffa_sets.proofs.set.write.Given as goal

abbrev pub invariant-loop-field : goal.invariant-loop-field
invariant-loop-field g l =
    let encoding = set_encoding (records_in (take l.field-index l.field-items)) in
    record {
      written : g.S.EncodeSink.written l.sink ≡ g.S.EncodeSink.written l.fn.sink ++ encoding;
      room : g.S.EncodeSink.room l.fn.sink ≤ g.S.EncodeSink.room l.sink + length encoding;
    }
