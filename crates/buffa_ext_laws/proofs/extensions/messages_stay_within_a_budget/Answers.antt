use Rattle.std.proofs.Common.{sym}
use Rattle.buffa_wire.specs.BudgetLeft.{defaults}
use Rattle.buffa_ext.specs.Messages.{encodings_in}
use Rattle.buffa_ext.specs.MessageFacts.{within}
use Rattle.buffa_ext_laws.proofs.ExtensionPinLemmas.{merging_stays_within}
use Rattle.buffa_ext_laws.proofs.extensions.messages_stay_within_a_budget.Goals as goal

pub returns-clause-read : goal.returns-clause-read
returns-clause-read g c = λ ds v h. within (g.M.MessageSpec.merged 100) (g.M.MessageSpec.cost 100) g.M.Blank.blank_is v defaults (encodings_in g.K.MessageRecord.held ds) (sym h)

pub returns-clause-merged : goal.returns-clause-merged
returns-clause-merged g c = merging_stays_within (g.M.MessageSpec.merged 100) (g.M.MessageSpec.cost 100) g.K.MessageRecord.held (g.K.MessageRecord.asks 100)
