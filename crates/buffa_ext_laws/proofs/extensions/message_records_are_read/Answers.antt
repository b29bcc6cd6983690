use Rattle.std.proofs.Common.{None}
use Rattle.buffa_ext.specs.MessageFacts.{large_refusal, small_refusal}
use Rattle.buffa_ext_laws.proofs.MessageWordLemmas.{short_held}
use Rattle.buffa_ext_laws.proofs.extensions.message_records_are_read.Goals as goal

pub returns-clause-too_large : goal.returns-clause-too_large
returns-clause-too_large g c = λ v h. large_refusal (λ t. None) (g.M.MessageSpec.encoding v) h

pub returns-clause-written : goal.returns-clause-written
returns-clause-written g c = λ v h. small_refusal (λ t. None) (g.M.MessageSpec.encoding v) h

pub returns-clause-short : goal.returns-clause-short
returns-clause-short g c = λ v. (
  λ h. (short_held (λ t. None) (g.M.MessageSpec.encoding v) h).0,
  λ h. small_refusal (λ t. None) (g.M.MessageSpec.encoding v) h,
)
