use Rattle.std.proofs.Common.{◌≡◌, map}
use Rattle.buffa_wire.specs.RecordsOfValues.{field_data_of}
use Rattle.buffa_codec.specs.RecordsOfNumber.{tagged}
use Rattle.buffa_ext.proofs.sets_and_clears.staged.Given as goal

abbrev pub invariant-loop-payload : goal.invariant-loop-payload
invariant-loop-payload l = l.fields.records ≡ tagged l.number (map field_data_of l.yielded)
