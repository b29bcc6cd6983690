use Rattle.buffa_recursive.specs.Fixpoint.{semantics}
use Rattle.buffa_recursive.specs.facts.FixpointFacts.{is_normal}
use Rattle.buffa_fields_laws.proofs.recursive_messages.messages_read_back.Goals as goal

pub returns : goal.returns
returns g c = λ d fits whole normal low.
    let t = semantics g.M.RecursiveType.COST g.M.RecursiveType.schema g.M.RecursiveType.sound in
    let v = c.args.message.now in
    t.back d v fits (is_normal g.M.RecursiveType.COST g.M.RecursiveType.schema g.M.RecursiveType.sound v (c.members_read_back.ensures, whole, normal)) low
