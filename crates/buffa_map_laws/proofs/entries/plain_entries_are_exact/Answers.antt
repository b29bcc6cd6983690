use Rattle.buffa_map_laws.proofs.PlainLemmas.{exact_merge, exact_refusal}
use Rattle.buffa_map.specs.Merge.{Rules}
use Rattle.buffa_map_laws.proofs.entries.plain_entries_are_exact.Goals as goal

pub returns : goal.returns
returns g c same ordered d n cost keeps old bytes new =
    let r : Rules _ _ = record { key = g.KC.MapValueDecode.reading; val = g.VC.MapValueDecode.reading; same = same; keeps_order = ordered; depth = d; number = n; cost = cost; keeps_undeclared = keeps } in
    let charge = c.plain_entries_charge_units.ensures.entry (g.met.KC.MapCodec.plain, g.met.VC.MapCodec.plain) d cost in
    let inner = c.plain_entries_charge_units.ensures.front (g.met.KC.MapCodec.plain, g.met.VC.MapCodec.plain) d bytes in
    (λ rest. exact_merge r charge old bytes new rest, λ rest f. exact_refusal r charge old bytes inner new rest f)
