use Rattle.std.proofs.Common.{sym, ◌∙◌}
use Rattle.buffa_ext_laws.proofs.ExtensionPinLemmas.{merging_is_pinned, record_merge_is_pinned}
use Rattle.buffa_ext_laws.proofs.extensions.messages_are_pinned.Goals as goal

pub returns-clause-read : goal.returns-clause-read
returns-clause-read g c = λ ds a b h k. h ∙ sym k

pub returns-clause-merged : goal.returns-clause-merged
returns-clause-merged g c = merging_is_pinned (g.M.MessageSpec.merged 100) (g.M.MessageSpec.cost 100) g.K.MessageRecord.held (g.K.MessageRecord.asks 100)

pub returns-clause-record : goal.returns-clause-record
returns-clause-record g c = λ n. record_merge_is_pinned (g.M.MessageSpec.merged n) (g.M.MessageSpec.cost n) g.K.MessageRecord.held (g.K.MessageRecord.asks n)
