use Rattle.std.proofs.Common.{IsOk, refl, subst, sym, ◌∙◌}
use Rattle.buffa_map.specs.Pairs.{means}
use Rattle.buffa_recursive.specs.MapKeys.{keys_by}
use Rattle.buffa_recursive.specs.facts.MapKeyFacts.{codec_reads_back}
use Rattle.buffa_fields.specs.Schema.{Follow, IsPut, visited}
use Rattle.buffa_fields.specs.facts.SchemaFacts.{came, follow_none}
use Rattle.buffa_recursive.specs.RecursiveSchema.{map_shape}
use Rattle.buffa_recursive.specs.MapShape.{pairs_shape}
use Rattle.buffa_recursive.specs.Fixpoint.{semantics}
use Rattle.buffa_recursive.specs.facts.MemberPassFacts.{other_unput}
use Rattle.buffa_recursive.proofs.writer.WriterByRecursiveVisitor.visit_map.Goals as goal

pub map_put-self-requires-clause-next : goal.map_put-self-requires-clause-next
map_put-self-requires-clause-next g c =
    let o = g.M.RecursiveType.schema in
    let keys = keys_by g.KC.MapValueDecode.reading g.KC.MapCodec.writing g.KC.MapValueDecode.COST g.KC.Value.OrderedKey.order g.KC.MapCodec.fits g.KC.MapCodec.normal in
    let ps = means g.KC.Value.Blank.meaning g.M.Blank.meaning c.args.part.now.entries in
    let ok : IsOk c.args.self.now.result = subst (λ r. IsOk r) (sym c.in-Ok.is) refl in
    came (λ w. w.result) (λ w. w.cache.now) ((map_shape o keys (semantics g.M.RecursiveType.COST o g.M.RecursiveType.sound)).slots (o.of_pairs ps)) c.args.self.now ok c.requires.comes

pub returns-in_default-clause-seen : goal.returns-in_default-clause-seen
returns-in_default-clause-seen g c = λ z h.
    let o = g.M.RecursiveType.schema in
    let t = semantics g.M.RecursiveType.COST o g.M.RecursiveType.sound in
    let keys = keys_by g.KC.MapValueDecode.reading g.KC.MapCodec.writing g.KC.MapValueDecode.COST g.KC.Value.OrderedKey.order g.KC.MapCodec.fits g.KC.MapCodec.normal in
    let ps = means g.KC.Value.Blank.meaning g.M.Blank.meaning c.args.part.now.entries in
    let w = c.args.self.now in
    let put = g.S.EncodeSink.written w.sink.now in
    subst (λ r. IsPut w.sink.ghost_name w.cache.ghost_name put w.cache.now r (visited (map_shape o keys t) c.args.number (o.of_pairs ps) z)) (sym c.in_default.is)
    (other_unput (λ qs. o.of_pairs qs) (λ a. o.pairs_from a) (λ qs. o.pairs_again qs) (pairs_shape keys t) c.args.number ps z w.sink.ghost_name w.cache.ghost_name put w.cache.now _ (subst (λ r. IsPut w.sink.ghost_name w.cache.ghost_name put w.cache.now r z) c.in_default.is h))

pub returns-in_default-clause-waits : goal.returns-in_default-clause-waits
returns-in_default-clause-waits g c = λ rest h.
    let w = c.args.self.now in
    subst (λ r. Follow rest r w.cache.now) (sym c.in_default.is) (follow_none rest rest w.cache.now _)

pub returns-in-Ok-clause-back : goal.returns-in-Ok-clause-back
returns-in-Ok-clause-back g c =
    codec_reads_back g.KC.MapValueDecode.reading g.KC.MapCodec.writing g.KC.MapValueDecode.COST g.KC.Value.OrderedKey.order g.KC.MapCodec.fits g.KC.MapCodec.normal g.met.KC.MapCodec.plain
    (g.met.KC.MapCodec.written_wire ∙ sym g.met.KC.MapValueDecode.wire) g.met.KC.MapCodec.reads_back g.KC.Value.OrderedKey.total

pub returns-in_default-clause-back : goal.returns-in_default-clause-back
returns-in_default-clause-back g c =
    codec_reads_back g.KC.MapValueDecode.reading g.KC.MapCodec.writing g.KC.MapValueDecode.COST g.KC.Value.OrderedKey.order g.KC.MapCodec.fits g.KC.MapCodec.normal g.met.KC.MapCodec.plain
    (g.met.KC.MapCodec.written_wire ∙ sym g.met.KC.MapValueDecode.wire) g.met.KC.MapCodec.reads_back g.KC.Value.OrderedKey.total
