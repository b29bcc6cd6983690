use Rattle.buffa_bytes.specs.Readings.{skip_at}
use Rattle.buffa_bytes.proofs.StepLemmas.{agree_ok, agree_err}
use Rattle.buffa_bytes.proofs.FieldLemmas.{payload_sound, payload_faulty, payload_taken}
use Rattle.buffa_wire_laws.proofs.wire.payloads_are_read.Goals as goal

pub returns-clause-ok : goal.returns-clause-ok
returns-clause-ok c = λ d f w bs rest. (λ e. agree_ok (skip_at d f w bs) rest (payload_sound d f w bs) e, payload_taken d f w bs rest)

pub returns-clause-err : goal.returns-clause-err
returns-clause-err c = λ d f w bs e. (λ h. agree_err (skip_at d f w bs) e (payload_sound d f w bs) h, payload_faulty d f w bs e)
