use Rattle.buffa_fields_laws.proofs.RecordLemmas.{bytes_are_merged, only_bytes}
use Rattle.buffa_fields_laws.proofs.records.messages_are_merged.Goals as goal

pub returns-clause-merged : goal.returns-clause-merged
returns-clause-merged g k = λ d n v t b h. bytes_are_merged g.N.MessageSpec.merged d n v t b h

pub returns-clause-only : goal.returns-clause-only
returns-clause-only g k = λ d n v u w p h. only_bytes g.N.MessageSpec.merged d n v u w p h
