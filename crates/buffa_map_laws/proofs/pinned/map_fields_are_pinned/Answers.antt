use Rattle.buffa_map_laws.proofs.PinEncodingLemmas.{field_is_pinned}
use Rattle.buffa_map_laws.proofs.pinned.map_fields_are_pinned.Goals as goal

pub returns : goal.returns
returns g c = field_is_pinned g.KC.MapCodec.writing g.VC.MapCodec.writing g.met.C.MapStorage.equivalence
