use Rattle.std.proofs.Common.{sym, ◌∙◌}
use Rattle.buffa_map.proofs.PutLemmas.{SamePairs-insert_entry}
use Rattle.buffa_map.proofs.MeaningLemmas.{SamePairs-put_mean}
use Rattle.buffa_map.proofs.ordered.BTreeMapMapStorage.storage_insert.Goals as goal

pub returns-in-Ok-clause-ok : goal.returns-in-Ok-clause-ok
returns-in-Ok-clause-ok g c =
    rw c.in-Ok.ensures.entries (SamePairs-put_mean g.K.Blank.meaning g.V.Blank.meaning g.K.MapKey.equivalence (λ a b. sym (g.met.K.Ord.matches_eq a b) ∙ g.met.K.MapKey.respects a b) c.args.self.now.entries _ c.args.key c.args.value
    (SamePairs-insert_entry g.met.K.Ord.total c.args.self.now.entries c.args.key c.args.value c.insert.ensures.was_ordered))
