use Rattle.std.proofs.Common.{ap, ◌∙◌}
use Rattle.buffa_bytes.specs.Readings.{tag_at}
use Rattle.buffa_bytes.proofs.StepLemmas.{agree_ok, agree_err}
use Rattle.buffa_bytes.proofs.FieldLemmas.{tag_sound, tag_complete, tag_faulty}
use Rattle.buffa_wire_laws.proofs.wire.tags_are_read.Goals as goal

pub returns-clause-ok : goal.returns-clause-ok
returns-clause-ok c = λ bs f w rest. (λ e. agree_ok (tag_at bs) (f, w, rest) (tag_sound bs) e, λ h. ap tag_at h.2 ∙ tag_complete h.0 f w rest h.1)

pub returns-clause-err : goal.returns-clause-err
returns-clause-err c = λ bs e. (λ h. agree_err (tag_at bs) e (tag_sound bs) h, tag_faulty bs e)
