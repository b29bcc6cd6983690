use Rattle.std.proofs.Common.{◌∙◌}
use Rattle.buffa_ext.specs.Messages.{group_refusal}
use Rattle.buffa_ext.specs.MessageFacts.{large_refusal, small_refusal}
use Rattle.buffa_ext_laws.proofs.MessageWordLemmas.{short_held}
use Rattle.buffa_ext_laws.proofs.extensions.group_records_are_read.Goals as goal

pub returns-clause-too_large : goal.returns-clause-too_large
returns-clause-too_large g c = λ v h. large_refusal group_refusal (g.M.MessageSpec.encoding v) h

pub returns-clause-written : goal.returns-clause-written
returns-clause-written g c = λ v h. small_refusal group_refusal (g.M.MessageSpec.encoding v) h

pub returns-clause-short : goal.returns-clause-short
returns-clause-short g c = λ v. (
  λ h. short_held group_refusal (g.M.MessageSpec.encoding v) h,
  λ h. small_refusal group_refusal (g.M.MessageSpec.encoding v) h.0 ∙ h.1,
)
