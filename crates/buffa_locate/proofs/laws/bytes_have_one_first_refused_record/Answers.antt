use Rattle.buffa_wire.proofs.ByPayloadLemmas.{by_payload}
use Rattle.buffa_locate.proofs.LawLemmas.{one_first}
use Rattle.buffa_locate.proofs.laws.bytes_have_one_first_refused_record.Goals as goal

pub returns : goal.returns
returns g c = λ d old bytes before one other first second. one_first (by_payload g.M.MessageSpec.stays g.M.MessageSpec.merged_is g.M.MessageSpec.cost_is) one other first second
