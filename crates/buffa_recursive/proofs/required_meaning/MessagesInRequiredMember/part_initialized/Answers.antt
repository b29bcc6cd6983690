use Rattle.std.proofs.Common.{sym, ◌∙◌}
use Rattle.buffa_recursive.specs.facts.InitializedFacts.{list_by_meaning}
use Rattle.buffa_recursive.proofs.required_meaning.MessagesInRequiredMember.part_initialized.Goals as goal

pub returns : goal.returns
returns g c = c.each_initialized.ensures ∙ sym (list_by_meaning g.N.Blank.meaning g.N.RequiredMeaning.by_meaning c.args.part.now.items)
