use Rattle.buffa_map.proofs.HashedLemmas.{SamePairs-insert, means-insert}
use Rattle.buffa_map.proofs.MeaningLemmas.{SamePairs-put_mean}
use Rattle.buffa_map.proofs.indexed.IndexMapMapStorage.storage_insert.Goals as goal

pub returns-in-Ok-clause-ok : goal.returns-in-Ok-clause-ok
returns-in-Ok-clause-ok g c =
    SamePairs-put_mean g.K.Blank.meaning g.V.Blank.meaning g.K.MapKey.equivalence g.met.K.MapKey.respects c.args.self.now.entries c.insert.new.self.entries c.args.key c.args.value
    (SamePairs-insert g.K.PartialEq.eq c.args.self.now.entries c.insert.new.self.entries c.args.key c.args.value c.in-Ok.ensures.entries)

pub returns-in-Ok-clause-order : goal.returns-in-Ok-clause-order
returns-in-Ok-clause-order g c _ =
    means-insert g.K.Blank.meaning g.V.Blank.meaning g.K.MapKey.equivalence g.met.K.MapKey.respects c.args.self.now.entries c.insert.new.self.entries c.args.key c.args.value c.in-Ok.ensures.entries
