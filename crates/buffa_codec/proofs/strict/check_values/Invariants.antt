use Rattle.std.proofs.Common.{take}
use Rattle.buffa_wire.specs.RecordsOfValues.{records_in}
use Rattle.buffa_codec.specs.Strict.{Faultless}
use Rattle.buffa_codec.specs.RecordsOfNumber.{sub}
use Rattle.buffa_codec.proofs.strict.check_values.Given as goal

abbrev pub invariant-loop-field : goal.invariant-loop-field
invariant-loop-field g l = Faultless (g.C.StrictSingularCodec.fault l.number) (sub l.number (records_in (take l.field-index l.field-items)))
