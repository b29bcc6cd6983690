use Rattle.std.proofs.Common.{◌∙◌, subst, sym}
use Rattle.buffa_map_laws.proofs.RewriteLemmas.{rewrite_means}
use Rattle.buffa_map_laws.proofs.entries.rewrite_means.Goals as goal

pub returns : goal.returns
returns g c same laws e f has_blank refines d n b out es fs num h k rewrite =
    let reading = g.KC.MapValueDecode.reading in
    let codec = g.KC.MapCodec in
    rewrite_means reading codec.writing (g.met.KC.MapCodec.written_wire ∙ sym g.met.KC.MapValueDecode.wire) g.met.KC.MapCodec.plain g.met.KC.MapValueDecode.free codec.fits codec.normal
    (subst codec.normal (sym g.met.KC.MapValueDecode.blank) g.met.KC.MapCodec.blank_normal) g.met.KC.MapCodec.stays_normal g.met.KC.MapCodec.reads_back e f has_blank refines same laws d n b out es fs num h k rewrite
