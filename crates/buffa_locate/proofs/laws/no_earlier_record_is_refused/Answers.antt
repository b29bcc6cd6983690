use Rattle.buffa_wire.proofs.ByPayloadLemmas.{by_payload}
use Rattle.buffa_locate.proofs.LawLemmas.{beginning_merged}
use Rattle.buffa_locate.proofs.laws.no_earlier_record_is_refused.Goals as goal

pub returns : goal.returns
returns g c = λ d old bytes before found n first within fields. beginning_merged (by_payload g.M.MessageSpec.stays g.M.MessageSpec.merged_is g.M.MessageSpec.cost_is) found n first within fields
