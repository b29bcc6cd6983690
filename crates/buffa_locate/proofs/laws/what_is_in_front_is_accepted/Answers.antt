use Rattle.buffa_wire.proofs.ByPayloadLemmas.{by_payload}
use Rattle.buffa_locate.proofs.LawLemmas.{front_merged}
use Rattle.buffa_locate.proofs.laws.what_is_in_front_is_accepted.Goals as goal

pub returns : goal.returns
returns g c = λ d old bytes before found first. front_merged (by_payload g.M.MessageSpec.stays g.M.MessageSpec.merged_is g.M.MessageSpec.cost_is) found first
