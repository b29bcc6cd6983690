use Rattle.std.proofs.Common.{◌≡◌, min, length, take}
use Rattle.buffa_wire.specs.RecordsOfValues.{records_in}
use Rattle.buffa_sets.specs.Set.{set_encoding}
use Rattle.buffa_sets.proofs.set.set_len.Given as goal

abbrev pub invariant-loop-field : goal.invariant-loop-field
invariant-loop-field l = l.total ≡ min (length (set_encoding (records_in (take l.field-index l.field-items)))) 18446744073709551615
