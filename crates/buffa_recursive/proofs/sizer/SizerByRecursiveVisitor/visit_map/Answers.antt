use Rattle.std.proofs.Common.{subst, sym, ◌∙◌}
use Rattle.buffa_map.specs.Pairs.{means}
use Rattle.buffa_recursive.specs.MapKeys.{keys_by}
use Rattle.buffa_recursive.specs.facts.MapKeyFacts.{codec_reads_back}
use Rattle.buffa_fields.specs.Schema.{IsCounted, visited}
use Rattle.buffa_recursive.specs.RecursiveSchema.{map_shape}
use Rattle.buffa_recursive.specs.MapShape.{pairs_shape}
use Rattle.buffa_recursive.specs.Fixpoint.{semantics}
use Rattle.buffa_recursive.specs.facts.MemberPassFacts.{other_uncounted}
use Rattle.buffa_recursive.proofs.sizer.SizerByRecursiveVisitor.visit_map.Goals as goal

pub returns-in_default-clause-seen : goal.returns-in_default-clause-seen
returns-in_default-clause-seen g c = λ z h.
    let o = g.M.RecursiveType.schema in
    let w = semantics g.M.RecursiveType.COST o g.M.RecursiveType.sound in
    let keys = keys_by g.KC.MapValueDecode.reading g.KC.MapCodec.writing g.KC.MapValueDecode.COST g.KC.Value.OrderedKey.order g.KC.MapCodec.fits g.KC.MapCodec.normal in
    let ps = means g.KC.Value.Blank.meaning g.M.Blank.meaning c.args.part.now.entries in
    let s = c.args.self.now in
    subst (λ r. IsCounted s.cache.ghost_name r s.cache.now (visited (map_shape o keys w) c.args.number (o.of_pairs ps) z)) (sym c.in_default.is)
    (other_uncounted (λ qs. o.of_pairs qs) (λ a. o.pairs_from a) (λ qs. o.pairs_again qs) (pairs_shape keys w) c.args.number ps z s.cache.ghost_name s.cache.now _ (subst (λ r. IsCounted s.cache.ghost_name r s.cache.now z) c.in_default.is h))

pub returns-in-Ok-clause-back : goal.returns-in-Ok-clause-back
returns-in-Ok-clause-back g c =
    codec_reads_back g.KC.MapValueDecode.reading g.KC.MapCodec.writing g.KC.MapValueDecode.COST g.KC.Value.OrderedKey.order g.KC.MapCodec.fits g.KC.MapCodec.normal g.met.KC.MapCodec.plain
    (g.met.KC.MapCodec.written_wire ∙ sym g.met.KC.MapValueDecode.wire) g.met.KC.MapCodec.reads_back g.KC.Value.OrderedKey.total

pub returns-in_default-clause-back : goal.returns-in_default-clause-back
returns-in_default-clause-back g c =
    codec_reads_back g.KC.MapValueDecode.reading g.KC.MapCodec.writing g.KC.MapValueDecode.COST g.KC.Value.OrderedKey.order g.KC.MapCodec.fits g.KC.MapCodec.normal g.met.KC.MapCodec.plain
    (g.met.KC.MapCodec.written_wire ∙ sym g.met.KC.MapValueDecode.wire) g.met.KC.MapCodec.reads_back g.KC.Value.OrderedKey.total
