use Rattle.buffa_wire_laws.proofs.PinLemmas.{inside_is_pinned}
use Rattle.buffa_wire_laws.proofs.records.merging_inside_is_pinned.Goals as goal

pub returns : goal.returns
returns g c = λ d old bs before. inside_is_pinned g.M.MessageSpec.merged g.M.MessageSpec.cost d old bs before
