use Rattle.std.proofs.Common.{refl}
use Rattle.buffa_fields.specs.MemberRecords.{explicit_records}
use Rattle.sample_validator.proofs.laws.messages_are_these.Goals as goal

pub returns-clause-records : goal.returns-clause-records
unfolding explicit_records
returns-clause-records c = λ v. refl

pub returns-clause-encoding : goal.returns-clause-encoding
unfolding explicit_records
returns-clause-encoding c = λ v. refl
