use Rattle.std.proofs.Common.{ap, ◌∙◌}
use Rattle.buffa_bytes.specs.Readings.{varint_at}
use Rattle.buffa_bytes.proofs.StepLemmas.{agree_ok, agree_err}
use Rattle.buffa_bytes.proofs.VarintLemmas.{varint_sound, varint_complete, varint_faulty}
use Rattle.buffa_wire_laws.proofs.wire.varints_are_read.Goals as goal

pub returns-clause-ok : goal.returns-clause-ok
returns-clause-ok c = λ bs n rest. (λ e. agree_ok (varint_at bs) (n, rest) (varint_sound bs) e, λ h. ap varint_at h.2 ∙ varint_complete h.0 n rest h.1)

pub returns-clause-err : goal.returns-clause-err
returns-clause-err c = λ bs e. (λ h. agree_err (varint_at bs) e (varint_sound bs) h, varint_faulty bs e)
