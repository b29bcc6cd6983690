use Rattle.std.proofs.Common.{refl, true}
use Rattle.buffa_map.specs.Merge.{rules}
use Rattle.buffa_map.proofs.RewriteWholeLemmas.{unencoded, whole}
use Rattle.buffa_map_laws.proofs.runs.rewrites_are_whole.Goals as goal

pub returns-clause-entries : goal.returns-clause-entries
returns-clause-entries g c = λ a b d n bs fs. (λ h. h, λ h. h)

pub returns-clause-encoding : goal.returns-clause-encoding
returns-clause-encoding g c = λ n l es. refl

pub returns-clause-written : goal.returns-clause-written
returns-clause-written g c = λ a b d n before after storage left over bs rest old written.
    whole (rules (g.KC.MapValueDecode.reading, a) (g.VC.MapValueDecode.reading, b) (g.C.MapStorage.equal, g.C.MapStorage.keeps_order) d n true)
    g.KC.MapCodec.writing g.VC.MapCodec.writing g.KC.MapCodec.fits g.VC.MapCodec.fits (g.C.MapStorage.walks storage) left over bs rest (g.C.MapStorage.pairs storage) old written before after (λ l w. g.met.C.MapStorage.walked storage l w)

pub returns-clause-stopped : goal.returns-clause-stopped
returns-clause-stopped g c = λ a b d n before storage left over bs rest old written e.
    unencoded (rules (g.KC.MapValueDecode.reading, a) (g.VC.MapValueDecode.reading, b) (g.C.MapStorage.equal, g.C.MapStorage.keeps_order) d n true)
    g.KC.MapCodec.writing g.VC.MapCodec.writing g.KC.MapCodec.fits g.VC.MapCodec.fits (g.C.MapStorage.walks storage) left over bs rest (g.C.MapStorage.pairs storage) old written before 0 (λ l w. g.met.C.MapStorage.walked storage l w) e
