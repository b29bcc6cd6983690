use Rattle.std.proofs.Common.{◌+◌, ◌*◌, drop}
use Rattle.buffa_wire.specs.RecordsOfValues.{records_in}
use Rattle.conformance_extensions.specs.Normal.{AreWritten}
use Rattle.conformance_extensions.proofs.written.+walk.Given as goal

abbrev pub decreases-is_payload_written : goal.decreases-is_payload_written
decreases-is_payload_written l = 2 * l.levels

abbrev pub decreases-are_written : goal.decreases-are_written
decreases-are_written l = 2 * l.levels + 1

-- where the rest can be written, all can
abbrev pub invariant-are_written-loop-field : goal.invariant-are_written-loop-field
invariant-are_written-loop-field l = AreWritten l.levels (records_in (drop l.field-index l.field-items)) → AreWritten l.levels (records_in l.field-items)
