use Rattle.std.proofs.Common.{arith, refl}
use Rattle.sample_types.proofs.NormalLemmas.{AllHold-unit}
use Rattle.sample_types.proofs.round_trip.words_through_bytes.Goals as goal

pub through_bytes-requires : goal.through_bytes-requires
through_bytes-requires c κs = ((refl, tt), ((omega arith, omega arith), (rw c.requires refl, λ l walk. AllHold-unit l)))
