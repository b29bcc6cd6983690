use Rattle.buffa_map_laws.proofs.PinLemmas.{value_is_pinned}
use Rattle.buffa_map_laws.proofs.pinned.values_are_pinned.Goals as goal

pub returns : goal.returns
returns g c = value_is_pinned g.VC.MapValueDecode.reading
