use Rattle.std.specs.Prelude.{Err}
use Rattle.std.proofs.Common.{◌∙◌, ap, sym}
use Rattle.buffa_bytes.specs.Readings.{taken}
use Rattle.buffa_bytes.proofs.StepLemmas.{agree_ok, agree_err}
use Rattle.buffa_bytes.proofs.DelimitedLemmas.{taken_sound, taken_complete, taken_faulty}
use Rattle.buffa_wire_laws.proofs.wire.first_bytes_are_these.Goals as goal

pub returns-clause-there : goal.returns-clause-there
returns-clause-there c = λ n bs p rest. (λ e. agree_ok (taken n bs) (p, rest) (taken_sound n bs) e, λ h. ap (taken n) h.1 ∙ taken_complete n p rest h.0)

pub returns-clause-too_few : goal.returns-clause-too_few
returns-clause-too_few c = λ n bs e. (λ h. agree_err (taken n bs) e (taken_sound n bs) h, λ h. taken_faulty n bs h.0 ∙ ap (λ x. Err x) (sym h.1))
