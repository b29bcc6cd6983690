use Rattle.std.proofs.Common.{sym, ◌∙◌}
use Rattle.buffa_recursive.specs.facts.InitializedFacts.{pairs_by_meaning}
use Rattle.buffa_recursive.proofs.required_meaning.MessageMapFieldRequiredMember.part_initialized.Goals as goal

pub returns : goal.returns
returns g c = c.values_initialized.ensures ∙ sym (pairs_by_meaning g.N.Blank.meaning g.N.RequiredMeaning.by_meaning g.KC.Value.Blank.meaning c.args.part.now.entries)
