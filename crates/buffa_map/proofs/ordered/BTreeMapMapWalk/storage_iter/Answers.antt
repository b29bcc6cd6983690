use Rattle.std.proofs.Common.{refl, ◌∙◌, sym}
use Rattle.std.proofs.lemmas.Map.Keys.{IsDistinct-from_sorted}
use Rattle.buffa_map.proofs.MeaningLemmas.{IsDistinct-mean}
use Rattle.buffa_map.proofs.ordered.BTreeMapMapWalk.storage_iter.Goals as goal

pub returns-clause-pairs : goal.returns-clause-pairs
returns-clause-pairs g c = rw c.iter.ensures.rest (
  IsDistinct-mean g.K.Blank.meaning g.V.Blank.meaning g.K.MapKey.equivalence (λ a b. sym (g.met.K.Ord.matches_eq a b) ∙ g.met.K.MapKey.respects a b) c.args.self.now.entries (IsDistinct-from_sorted _ _ c.iter.ensures.ordered),
  λ q. refl,
)
