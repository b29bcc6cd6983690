use Rattle.buffa_bytes.specs.Readings.{delimited_at}
use Rattle.buffa_bytes.proofs.StepLemmas.{agree_ok, agree_err}
use Rattle.buffa_bytes.proofs.DelimitedLemmas.{delimited_sound, delimited_taken, delimited_faulty}
use Rattle.buffa_wire_laws.proofs.wire.delimited_bytes_are_read.Goals as goal

pub returns-clause-ok : goal.returns-clause-ok
returns-clause-ok c = λ bs p rest. (λ e. agree_ok (delimited_at bs) (p, rest) (delimited_sound bs) e, delimited_taken bs p rest)

pub returns-clause-err : goal.returns-clause-err
returns-clause-err c = λ bs e. (λ h. agree_err (delimited_at bs) e (delimited_sound bs) h, delimited_faulty bs e)
