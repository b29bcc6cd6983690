use Rattle.std.proofs.Common.{sym, ◌∙◌}
use Rattle.buffa_map.proofs.OrderedLemmas.{one_walk}
use Rattle.buffa_map_laws.proofs.storages.ordered_maps_have_one_walk.Goals as goal

pub returns : goal.returns
returns g c m n l k p q s t h =
    p ∙ one_walk g.K.Blank.meaning g.V.Blank.meaning g.K.MapKey.same g.met.K.Ord.total (λ a b. sym (g.met.K.Ord.matches_eq a b) ∙ g.met.K.MapKey.respects a b) m.entries n.entries s t h ∙ sym q
