use Rattle.buffa_wire_laws.proofs.PinLemmas.{field_merge_is_pinned}
use Rattle.buffa_wire_laws.proofs.records.merging_a_field_is_pinned.Goals as goal

pub returns : goal.returns
returns g c = λ d n w t tag old bs before. field_merge_is_pinned g.M.MessageSpec.merged g.M.MessageSpec.cost d n w t tag old bs before
