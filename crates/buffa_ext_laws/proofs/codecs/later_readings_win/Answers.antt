use Rattle.buffa_wire.specs.BudgetLeft.{defaults}
use Rattle.buffa_ext_laws.proofs.CodecPinLemmas.{later_readings}
use Rattle.buffa_ext_laws.proofs.codecs.later_readings_win.Goals as goal

pub returns : goal.returns
returns g c = later_readings (g.C.SingularCodec.one 100 defaults)
