use Rattle.std.proofs.Common.{◌∙◌}
use Rattle.buffa_ext.specs.MessageFacts.{large_refusal, small_refusal}
use Rattle.buffa_ext_laws.proofs.MessageWordLemmas.{short_held}
use Rattle.buffa_ext_laws.proofs.extensions.messages_in_records_are_read.Goals as goal

pub returns-clause-too_large : goal.returns-clause-too_large
returns-clause-too_large g c = λ v h. large_refusal g.K.MessageRecord.refusal (g.M.MessageSpec.encoding v) h

pub returns-clause-written : goal.returns-clause-written
returns-clause-written g c = λ v h. small_refusal g.K.MessageRecord.refusal (g.M.MessageSpec.encoding v) h

pub returns-clause-fits : goal.returns-clause-fits
returns-clause-fits g c = λ v. (
  λ h. short_held g.K.MessageRecord.refusal (g.M.MessageSpec.encoding v) h,
  λ h. small_refusal g.K.MessageRecord.refusal (g.M.MessageSpec.encoding v) h.0 ∙ h.1,
)
