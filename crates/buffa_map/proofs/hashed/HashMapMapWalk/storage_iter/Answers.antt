use Rattle.std.proofs.Common.{refl}
use Rattle.buffa_map.proofs.MeaningLemmas.{IsDistinct-mean}
use Rattle.buffa_map.proofs.hashed.HashMapMapWalk.storage_iter.Goals as goal

pub returns-clause-pairs : goal.returns-clause-pairs
returns-clause-pairs g c = rw c.iter.ensures.rest (IsDistinct-mean g.K.Blank.meaning g.V.Blank.meaning g.K.MapKey.equivalence g.met.K.MapKey.respects c.args.self.now.entries c.iter.ensures.unique, λ q. refl)
