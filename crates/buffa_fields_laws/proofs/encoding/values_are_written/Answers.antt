use Rattle.std.proofs.Common.{refl}
use Rattle.buffa_fields.specs.MemberRecords.{implicit_records}
use Rattle.buffa_fields_laws.proofs.encoding.values_are_written.Goals as goal

pub returns-clause-default : goal.returns-clause-default
unfolding implicit_records
returns-clause-default g c = λ n v h. rw h refl

pub returns-clause-plain : goal.returns-clause-plain
unfolding implicit_records
returns-clause-plain g c = λ n v h. rw h refl
