use Rattle.buffa_fields_laws.proofs.RecordLemmas.{body_is_merged, only_groups}
use Rattle.buffa_fields_laws.proofs.records.groups_are_merged.Goals as goal

pub returns-clause-merged : goal.returns-clause-merged
returns-clause-merged g k = λ d n v b e j tag. body_is_merged g.N.MessageSpec.merged d n v b e j tag

pub returns-clause-only : goal.returns-clause-only
returns-clause-only g k = λ d n v u w p h. only_groups g.N.MessageSpec.merged d n v u w p h
