use Rattle.buffa_map.proofs.ChargeLemmas.{entry_limited}
use Rattle.buffa_map.proofs.laws.limits_are_reported_where_charges_are_not_left.Goals as goal

pub returns : goal.returns
returns g c d cost extra left bs f h l = entry_limited g.KC.MapValueDecode.reading g.VC.MapValueDecode.reading d g.met.KC.MapValueDecode.no_limit g.met.VC.MapValueDecode.no_limit cost extra left bs f h l
