use Rattle.sample_types.proofs.PinLemmas.{trip_is_pinned}
use Rattle.sample_types.proofs.laws.trips_are_pinned.Goals as goal

pub returns : goal.returns
returns g c m = trip_is_pinned g.KC.MapCodec.writing g.VC.MapCodec.writing g.met.C.MapStorage.equivalence _ _ _ _ (g.met.C.MapStorage.walked m)
