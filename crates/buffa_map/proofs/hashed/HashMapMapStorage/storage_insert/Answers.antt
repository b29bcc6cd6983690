use Rattle.buffa_map.proofs.HashedLemmas.{SamePairs-puts_entry}
use Rattle.buffa_map.proofs.MeaningLemmas.{SamePairs-put_mean}
use Rattle.buffa_map.proofs.hashed.HashMapMapStorage.storage_insert.Goals as goal

pub returns-in-Ok-clause-ok : goal.returns-in-Ok-clause-ok
returns-in-Ok-clause-ok g c =
    SamePairs-put_mean g.K.Blank.meaning g.V.Blank.meaning g.K.MapKey.equivalence g.met.K.MapKey.respects c.args.self.now.entries c.insert.new.self.entries c.args.key c.args.value
    (SamePairs-puts_entry g.met.K.Eq.laws c.args.self.now.entries c.insert.new.self.entries c.args.key c.args.value c.in-Ok.field-0 c.in-Ok.ensures.old c.insert.ensures.unique c.in-Ok.ensures.entries)
