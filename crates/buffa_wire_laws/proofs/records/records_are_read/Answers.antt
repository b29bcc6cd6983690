use Rattle.buffa_bytes.proofs.StepLemmas.{agree_ok, agree_err}
use Rattle.buffa_wire.specs.RecordReading.{list_at}
use Rattle.buffa_wire.proofs.LoopLemmas.{list_is_read, list_taken, list_refused}
use Rattle.buffa_wire_laws.proofs.records.records_are_read.Goals as goal

pub returns-clause-ok : goal.returns-clause-ok
returns-clause-ok c = λ d s bs rs. (λ e. agree_ok (list_at d s bs) rs (list_is_read d s bs) e, λ h. list_taken d s bs rs h.0 h.1)

pub returns-clause-err : goal.returns-clause-err
returns-clause-err c = λ d s bs e. (λ h. agree_err (list_at d s bs) e (list_is_read d s bs) h, list_refused d s bs e)
