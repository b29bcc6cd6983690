use Rattle.buffa_map_laws.proofs.PinLemmas.{run_is_pinned}
use Rattle.buffa_map_laws.proofs.pinned.runs_are_pinned.Goals as goal

pub returns : goal.returns
returns g c same ordered d n cost keeps =
    run_is_pinned (record { key = g.KC.MapValueDecode.reading; val = g.VC.MapValueDecode.reading; same = same; keeps_order = ordered; depth = d; number = n; cost = cost; keeps_undeclared = keeps }) g.met.KC.MapValueDecode.free g.met.VC.MapValueDecode.free
