use Rattle.buffa_map.proofs.MeaningLemmas.{IsDistinct-mean}
use Rattle.buffa_map.proofs.hashed.HashMapMapStorage.storage_len.Goals as goal

pub returns-clause-distinct : goal.returns-clause-distinct
returns-clause-distinct g c = IsDistinct-mean g.K.Blank.meaning g.V.Blank.meaning g.K.MapKey.equivalence g.met.K.MapKey.respects c.args.self.now.entries c.len.ensures.unique
