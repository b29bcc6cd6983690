use Rattle.std.proofs.Common.{◌∙◌}
use Rattle.buffa_wire.proofs.TakesLemmas.{cost_of_one, merged_of_one}
use Rattle.buffa_wire_laws.proofs.answers.fields_mean_their_payloads.Goals as goal

pub returns-clause-means : goal.returns-clause-means
returns-clause-means g c d n w v t p tag h = g.M.MessageSpec.merged_is d v _ ∙ merged_of_one g.M.MessageSpec.takes d v n w t p tag h

pub returns-clause-costs : goal.returns-clause-costs
returns-clause-costs g c d n w t p tag h = g.M.MessageSpec.cost_is d _ ∙ cost_of_one g.M.MessageSpec.charge g.M.MessageSpec.stays d n w t p tag h
