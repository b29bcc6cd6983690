use Rattle.std.proofs.Common.{◌+◌}
use Rattle.buffa_map.specs.Pairs.{put}
use Rattle.buffa_fields_laws.proofs.KeptLemmas.{pair_cost_each}
use Rattle.buffa_fields_laws.proofs.RecordLemmas.{entry_is_taken, only_entries}
use Rattle.buffa_fields.specs.ClosedEnumMaps.{put_or_keep}
use Rattle.buffa_fields_laws.proofs.members.maps_with_unknowns_are_these.Goals as goal

pub returns-clause-entry : goal.returns-clause-entry
returns-clause-entry g c = λ d n v kept t e s h is.
    entry_is_taken g.KC.MapValueDecode.reading g.VC.MapValueDecode.reading (put_or_keep g.KC.MapValueDecode.reading g.VC.MapValueDecode.reading (put g.KC.Value.MapKey.same) n) d n (v, kept) t e s h is

pub returns-clause-only : goal.returns-clause-only
returns-clause-only g c = λ d n v u w p h.
    only_entries g.KC.MapValueDecode.reading g.VC.MapValueDecode.reading (put_or_keep g.KC.MapValueDecode.reading g.VC.MapValueDecode.reading (put g.KC.Value.MapKey.same) n) d n v u w p h

pub returns-clause-costs : goal.returns-clause-costs
returns-clause-costs g c = λ d n w p more v u rs payload h.
    pair_cost_each g.KC.MapValueDecode.reading g.VC.MapValueDecode.reading (put g.KC.Value.MapKey.same) (g.KC.MapValueDecode.COST + g.VC.MapValueDecode.COST) d n w p more v u rs payload h
