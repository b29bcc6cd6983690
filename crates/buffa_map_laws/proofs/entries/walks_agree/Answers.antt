use Rattle.buffa_map.proofs.WalkLemmas.{one_size, permuted}
use Rattle.buffa_map_laws.proofs.entries.walks_agree.Goals as goal

pub returns : goal.returns
returns g c =
    let laws = g.met.C.MapStorage.equivalence in
    record { pairs = permuted laws; size = one_size g.KC.MapCodec.writing g.VC.MapCodec.writing laws }
