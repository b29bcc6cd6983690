use Rattle.std.proofs.Common.{◌∙◌, ap, sym}
use Rattle.buffa_fields_laws.proofs.OptionLemmas.{had_again}
use Rattle.buffa_fields.specs.Submessages.{message_merged, taken_there}
use Rattle.buffa_recursive.specs.Fixpoint.{semantics}
use Rattle.buffa_recursive.specs.facts.FixpointFacts.{blank_is}
use Rattle.buffa_fields_laws.proofs.recursive_members.ones_inside_are_these.Goals as goal

pub returns-clause-takes : goal.returns-clause-takes
unfolding message_merged
returns-clause-takes g c = λ d n w p v.
    let o = g.M.RecursiveType.schema in
    let t = semantics g.M.RecursiveType.COST o g.M.RecursiveType.sound in
    had_again o.of_option o.option_of o.option_again (taken_there t.blank (message_merged t.merged) d (o.option_of v) n w p)
    ∙ ap (λ b. taken_there b (message_merged t.merged) d (o.option_of v) n w p) (blank_is g.M.RecursiveType.COST o g.M.RecursiveType.sound ∙ sym g.met.M.RecursiveMeaning.starts)
