use Rattle.std.proofs.Common.{true}
use Rattle.buffa_map_laws.proofs.PinEncodingLemmas.{rewrite_is_pinned}
use Rattle.buffa_map_laws.proofs.pinned.rewrites_are_pinned.Goals as goal

pub returns : goal.returns
returns g c d n cost one other left bytes a b over last x y old v w room =
    rewrite_is_pinned (record { key = g.KC.MapValueDecode.reading; val = g.VC.MapValueDecode.reading; same = g.C.MapStorage.equal; keeps_order = g.C.MapStorage.keeps_order; depth = d; number = n; cost = cost; keeps_undeclared = true }) g.met.C.MapStorage.equivalence g.met.KC.MapValueDecode.free g.met.VC.MapValueDecode.free
    g.KC.MapCodec.writing g.VC.MapCodec.writing g.KC.MapCodec.fits g.VC.MapCodec.fits (g.C.MapStorage.walks one) (g.C.MapStorage.walks other) left bytes a b over last x y old v w room
