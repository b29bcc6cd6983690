use Rattle.buffa_locate.proofs.LawLemmas.{not_merged}
use Rattle.buffa_locate.proofs.laws.bytes_with_a_refused_record_are_refused.Goals as goal

pub returns : goal.returns
returns g c = λ d old bytes before found first accepted. not_merged _ _ before found.fault first.why accepted
