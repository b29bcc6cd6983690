use Rattle.buffa_map_laws.proofs.PinEncodingLemmas.{put_is_pinned}
use Rattle.buffa_map_laws.proofs.pinned.puts_are_pinned.Goals as goal

pub returns : goal.returns
returns g c = put_is_pinned g.met.C.MapStorage.equivalence g.C.MapStorage.keeps_order
