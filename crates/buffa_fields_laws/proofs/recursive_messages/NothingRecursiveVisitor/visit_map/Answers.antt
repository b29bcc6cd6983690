use Rattle.std.proofs.Common.{sym, ◌∙◌}
use Rattle.buffa_recursive.specs.facts.MapKeyFacts.{codec_reads_back}
use Rattle.buffa_fields_laws.proofs.recursive_messages.NothingRecursiveVisitor.visit_map.Goals as goal

pub returns-clause-back : goal.returns-clause-back
returns-clause-back g c =
    codec_reads_back g.KC.MapValueDecode.reading g.KC.MapCodec.writing g.KC.MapValueDecode.COST g.KC.Value.OrderedKey.order g.KC.MapCodec.fits g.KC.MapCodec.normal g.met.KC.MapCodec.plain
    (g.met.KC.MapCodec.written_wire ∙ sym g.met.KC.MapValueDecode.wire) g.met.KC.MapCodec.reads_back g.KC.Value.OrderedKey.total
