use Rattle.buffa_bytes.specs.PayloadValue.{payload_value_at}
use Rattle.buffa_bytes.proofs.StepLemmas.{agree_ok, agree_err}
use Rattle.buffa_bytes.proofs.PayloadValueLemmas.{payload_value_sound, payload_value_taken, payload_value_faulty}
use Rattle.buffa_wire_laws.proofs.wire.payload_values_are_read.Goals as goal

pub returns-clause-ok : goal.returns-clause-ok
returns-clause-ok c = λ w bs k rest. (λ e. agree_ok (payload_value_at w bs) (k, rest) (payload_value_sound w bs) e, payload_value_taken w bs k rest)

pub returns-clause-err : goal.returns-clause-err
returns-clause-err c = λ w bs e. (λ h. agree_err (payload_value_at w bs) e (payload_value_sound w bs) h, payload_value_faulty w bs e)
