use Rattle.buffa_bytes.proofs.StepLemmas.{agree_ok, agree_err}
use Rattle.buffa_wire.specs.RecordReading.{field_at}
use Rattle.buffa_wire.proofs.LoopLemmas.{field_is_read, field_taken, field_refused}
use Rattle.buffa_wire_laws.proofs.records.fields_are_read.Goals as goal

pub returns-clause-ok : goal.returns-clause-ok
returns-clause-ok c = λ d s n w bs x left rest. (λ e. agree_ok (field_at d s n w bs) (x, left, rest) (field_is_read d s n w bs) e, field_taken d s n w bs x left rest)

pub returns-clause-err : goal.returns-clause-err
returns-clause-err c = λ d s n w bs e. (λ h. agree_err (field_at d s n w bs) e (field_is_read d s n w bs) h, field_refused d s n w bs e)
