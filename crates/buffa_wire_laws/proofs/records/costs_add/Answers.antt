use Rattle.buffa_wire.proofs.ByPayloadLemmas.{by_payload, cost_empty, cost_next, costs_no_payload}
use Rattle.buffa_wire_laws.proofs.records.costs_add.Goals as goal

pub returns-clause-none : goal.returns-clause-none
returns-clause-none g c = cost_empty (by_payload g.M.MessageSpec.stays g.M.MessageSpec.merged_is g.M.MessageSpec.cost_is)

pub returns-clause-next : goal.returns-clause-next
returns-clause-next g c = cost_next (by_payload g.M.MessageSpec.stays g.M.MessageSpec.merged_is g.M.MessageSpec.cost_is)

pub returns-clause-no_payload : goal.returns-clause-no_payload
returns-clause-no_payload g c = costs_no_payload (by_payload g.M.MessageSpec.stays g.M.MessageSpec.merged_is g.M.MessageSpec.cost_is)
