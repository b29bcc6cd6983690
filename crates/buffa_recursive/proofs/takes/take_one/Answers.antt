use Rattle.buffa_recursive.specs.facts.FixpointFacts.{each_is}
use Rattle.std.specs.Option.{option_map}
use Rattle.buffa_recursive.proofs.MemberTakeLemmas.{one_took}
use Rattle.buffa_recursive.specs.Fixpoint.{semantics}
use Rattle.buffa_recursive.proofs.takes.take_one.Goals as goal

pub returns : goal.returns
returns g c =
    let k = c.put_message in
    one_took g.M.RecursiveType.schema (semantics g.M.RecursiveType.COST g.M.RecursiveType.schema g.M.RecursiveType.sound) c.args.ctx.depth c.args.tag.number c.args.tag.wire_type c.args.buf.now.now k.new.buf.now c.args.ctx.budget.now _ k.result
    (option_map (λ b. b.value) c.args.one.now) (option_map (λ b. b.value) k.new.one) g.M.RecursiveType.COST (each_is g.M.RecursiveType.COST g.M.RecursiveType.schema g.M.RecursiveType.sound) k.ensures.taken k.ensures.full k.ensures.wire k.ensures.refused
