use Rattle.std.proofs.Common.{subst, sym}
use Rattle.buffa_map_laws.proofs.RewriteLemmas.{run_twin}
use Rattle.buffa_map_laws.proofs.entries.newer_enums_take_it_too.Goals as goal

pub returns : goal.returns
returns g c e f has_blank refines d n b es h =
    let codec = g.KC.MapCodec in
    let i = run_twin g.KC.MapValueDecode.reading codec.normal (subst codec.normal (sym g.met.KC.MapValueDecode.blank) g.met.KC.MapCodec.blank_normal) g.met.KC.MapCodec.stays_normal e f has_blank refines d n b es h in
    (i.0, i.1)
