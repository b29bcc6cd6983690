use Rattle.std.proofs.Common.{true}
use Rattle.buffa_map.specs.Merge.{rules}
use Rattle.buffa_map_laws.proofs.RunLawLemmas.{refused_is, rewritten_is}
use Rattle.buffa_map_laws.proofs.runs.rewrites_are_readings.Goals as goal

pub returns-clause-read : goal.returns-clause-read
returns-clause-read g c = λ a b d n room after storage left over bs rest old written new h.
    rewritten_is (rules (g.KC.MapValueDecode.reading, a) (g.VC.MapValueDecode.reading, b) (g.C.MapStorage.equal, g.C.MapStorage.keeps_order) d n true)
    g.KC.MapCodec.writing g.VC.MapCodec.writing g.KC.MapCodec.fits g.VC.MapCodec.fits (g.C.MapStorage.walks storage) left over bs rest old written new room after h

pub returns-clause-not_written : goal.returns-clause-not_written
returns-clause-not_written g c = λ a b d n room storage left over bs rest old written new e h.
    refused_is (rules (g.KC.MapValueDecode.reading, a) (g.VC.MapValueDecode.reading, b) (g.C.MapStorage.equal, g.C.MapStorage.keeps_order) d n true)
    g.KC.MapCodec.writing g.VC.MapCodec.writing g.KC.MapCodec.fits g.VC.MapCodec.fits (g.C.MapStorage.walks storage) left over bs rest old written new room e h
