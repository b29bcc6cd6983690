use Rattle.std.proofs.Common.{◌∙◌, sym}
use Rattle.buffa_map.specs.Pairs.{means}
use Rattle.buffa_recursive.specs.MapKeys.{keys_by}
use Rattle.buffa_recursive.proofs.MemberTakeLemmas.{pairs_took}
use Rattle.buffa_recursive.specs.Fixpoint.{semantics}
use Rattle.buffa_recursive.specs.facts.FixpointFacts.{blank_is, each_is}
use Rattle.buffa_recursive.proofs.maps.take_map.Goals as goal

pub returns : goal.returns
returns g c =
    let o = g.M.RecursiveType.schema in
    let keys = keys_by g.KC.MapValueDecode.reading g.KC.MapCodec.writing g.KC.MapValueDecode.COST g.KC.Value.OrderedKey.order g.KC.MapCodec.fits g.KC.MapCodec.normal in
    let says = means g.KC.Value.Blank.meaning g.M.Blank.meaning in
    let k = c.take_pair_by in
    pairs_took o (semantics g.M.RecursiveType.COST o g.M.RecursiveType.sound) c.args.ctx.depth c.args.tag.number c.args.tag.wire_type c.args.buf.now.now k.new.buf.now c.args.ctx.budget.now _ k.result keys g.M.Blank.blank_is g.M.RecursiveType.COST
    (g.met.M.RecursiveMeaning.starts ∙ sym (blank_is g.M.RecursiveType.COST o g.M.RecursiveType.sound)) (sym (each_is g.M.RecursiveType.COST o g.M.RecursiveType.sound)) (says c.args.map.now.entries) (says k.new.map.entries) (k.ensures.taken, k.ensures.full, k.ensures.wire, k.ensures.refused)
