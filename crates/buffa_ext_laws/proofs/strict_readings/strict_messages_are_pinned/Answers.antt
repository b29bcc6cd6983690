use Rattle.buffa_wire.specs.BudgetLeft.{defaults}
use Rattle.buffa_ext_laws.proofs.StrictPinLemmas.{message_absent, messages_either}
use Rattle.buffa_ext_laws.proofs.strict_readings.strict_messages_are_pinned.Goals as goal

pub returns-clause-either : goal.returns-clause-either
returns-clause-either g c = λ n ds.
    messages_either (g.M.MessageSpec.merged 100) (g.M.MessageSpec.cost 100) g.K.MessageRecord.held g.K.MessageRecord.WIRE_TYPE n ds g.M.Blank.blank_is defaults

pub returns-clause-absent : goal.returns-clause-absent
returns-clause-absent g c = λ n ds o h k.
    message_absent (g.M.MessageSpec.merged 100) (g.M.MessageSpec.cost 100) g.K.MessageRecord.held g.K.MessageRecord.WIRE_TYPE n g.M.Blank.blank_is ds o h k
