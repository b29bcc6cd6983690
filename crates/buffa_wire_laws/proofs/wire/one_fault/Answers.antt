use Rattle.std.proofs.Common.{sym, ◌∙◌}
use Rattle.buffa_bytes.proofs.FieldLemmas.{payload_faulty, payload_taken, err_same, ok_no_err}
use Rattle.buffa_wire_laws.proofs.wire.one_fault.Goals as goal

pub returns-clause-one : goal.returns-clause-one
returns-clause-one c = λ d f w bs e k h l. err_same (sym (payload_faulty d f w bs e h) ∙ payload_faulty d f w bs k l)

pub returns-clause-none : goal.returns-clause-none
returns-clause-none c = λ d f w bs rest e h k. ok_no_err (sym (payload_taken d f w bs rest h) ∙ payload_faulty d f w bs e k)
