use Rattle.std.proofs.Common.{refl}
use Rattle.buffa_wire.proofs.ByPayloadLemmas.{by_payload, merged_empty, merged_next, merged_none}
use Rattle.buffa_wire_laws.proofs.records.merging_is_by_fields.Goals as goal

pub returns-clause-none : goal.returns-clause-none
returns-clause-none g c = merged_empty (by_payload g.M.MessageSpec.stays g.M.MessageSpec.merged_is g.M.MessageSpec.cost_is)

pub returns-clause-next : goal.returns-clause-next
returns-clause-next g c = merged_next (by_payload g.M.MessageSpec.stays g.M.MessageSpec.merged_is g.M.MessageSpec.cost_is)

pub returns-clause-no_fields : goal.returns-clause-no_fields
returns-clause-no_fields g c = λ d v bs. merged_none (by_payload g.M.MessageSpec.stays g.M.MessageSpec.merged_is g.M.MessageSpec.cost_is) d v bs (g.M.MessageSpec.merged d v bs) refl
