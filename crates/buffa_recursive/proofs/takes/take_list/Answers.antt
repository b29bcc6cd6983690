use Rattle.buffa_recursive.proofs.MemberTakeLemmas.{list_took}
use Rattle.buffa_recursive.specs.Fixpoint.{semantics}
use Rattle.buffa_recursive.specs.facts.FixpointFacts.{each_is}
use Rattle.buffa_recursive.proofs.takes.take_list.Goals as goal

pub returns : goal.returns
returns g c =
    let k = c.push_message in
    list_took g.M.RecursiveType.schema (semantics g.M.RecursiveType.COST g.M.RecursiveType.schema g.M.RecursiveType.sound) c.args.ctx.depth c.args.tag.number c.args.tag.wire_type c.args.buf.now.now k.new.buf.now c.args.ctx.budget.now _ k.result
    c.args.list.now.items k.new.list.items g.M.RecursiveType.COST (each_is g.M.RecursiveType.COST g.M.RecursiveType.schema g.M.RecursiveType.sound) k.ensures.taken k.ensures.full k.ensures.wire k.ensures.refused
