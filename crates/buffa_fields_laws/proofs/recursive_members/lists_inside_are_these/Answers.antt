use Rattle.std.proofs.Common.{◌∙◌, ap, sym}
use Rattle.buffa_fields_laws.proofs.OptionLemmas.{had_again}
use Rattle.buffa_fields.specs.Submessages.{message_merged}
use Rattle.buffa_fields.specs.RepeatedMessages.{messages_cost, messages_taken}
use Rattle.buffa_recursive.specs.Fixpoint.{semantics}
use Rattle.buffa_recursive.specs.facts.FixpointFacts.{blank_is, each_is}
use Rattle.buffa_fields_laws.proofs.recursive_members.lists_inside_are_these.Goals as goal

pub returns-clause-takes : goal.returns-clause-takes
unfolding message_merged
returns-clause-takes g c = λ d n w p v.
    let o = g.M.RecursiveType.schema in
    let t = semantics g.M.RecursiveType.COST o g.M.RecursiveType.sound in
    had_again o.of_list o.children_list o.list_again (messages_taken t.blank t.merged d (o.children_list v) n w p)
    ∙ ap (λ b. messages_taken b t.merged d (o.children_list v) n w p) (blank_is g.M.RecursiveType.COST o g.M.RecursiveType.sound ∙ sym g.met.M.RecursiveMeaning.starts)

pub returns-clause-charge : goal.returns-clause-charge
unfolding messages_cost
returns-clause-charge g c = λ d n w bs.
    let t = semantics g.M.RecursiveType.COST g.M.RecursiveType.schema g.M.RecursiveType.sound in
    ap (λ k. messages_cost k t.cost d n w bs) (each_is g.M.RecursiveType.COST g.M.RecursiveType.schema g.M.RecursiveType.sound)
