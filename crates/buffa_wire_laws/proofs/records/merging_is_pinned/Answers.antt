use Rattle.buffa_wire_laws.proofs.PinLemmas.{merge_is_pinned}
use Rattle.buffa_wire_laws.proofs.records.merging_is_pinned.Goals as goal

pub returns : goal.returns
returns g c = λ d old bs before. merge_is_pinned (g.M.MessageSpec.merged d old bs) (g.M.MessageSpec.cost d bs) before
