use Rattle.buffa_map.specs.Merge.{rules}
use Rattle.buffa_map_laws.proofs.RunLawLemmas.{merged_is}
use Rattle.buffa_map_laws.proofs.runs.merged_entries_are_these.Goals as goal

pub returns : goal.returns
returns g c = λ a b d n same ordered keeps old new bs rest h.
    merged_is (rules (g.KC.MapValueDecode.reading, a) (g.VC.MapValueDecode.reading, b) (same, ordered) d n keeps) old new bs rest h
