use Rattle.std.proofs.Common.{◌≡◌, [], take}
use Rattle.buffa_wire.specs.RecordsOfValues.{records_in}
use Rattle.buffa_codec.specs.RecordsOfNumber.{sub}
use Rattle.buffa_ext.proofs.change_records.has_number.Given as goal

abbrev pub invariant-loop-field : goal.invariant-loop-field
invariant-loop-field l = sub l.number (records_in (take l.field-index l.field-items)) ≡ []
