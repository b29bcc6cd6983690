use Rattle.std.proofs.Common.{◌∙◌, sym}
use Rattle.std.proofs.lemmas.Map.Keys.{IsDistinct-from_sorted}
use Rattle.buffa_map.proofs.MeaningLemmas.{IsDistinct-mean}
use Rattle.buffa_map.proofs.ordered.BTreeMapMapStorage.storage_len.Goals as goal

pub returns-clause-distinct : goal.returns-clause-distinct
returns-clause-distinct g c = IsDistinct-mean g.K.Blank.meaning g.V.Blank.meaning g.K.MapKey.equivalence (λ a b. sym (g.met.K.Ord.matches_eq a b) ∙ g.met.K.MapKey.respects a b) c.args.self.now.entries (IsDistinct-from_sorted _ _ c.len.ensures.ordered)
