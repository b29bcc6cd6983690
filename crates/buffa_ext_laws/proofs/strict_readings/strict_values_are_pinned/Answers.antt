use Rattle.buffa_wire.specs.BudgetLeft.{defaults}
use Rattle.buffa_ext_laws.proofs.StrictPinLemmas.{absent_by, either_way, one_fault}
use Rattle.buffa_ext_laws.proofs.strict_readings.strict_values_are_pinned.Goals as goal

pub returns-clause-either : goal.returns-clause-either
returns-clause-either g c = λ n ds. either_way (g.C.StrictSingularCodec.fault n) ds

pub returns-clause-reported : goal.returns-clause-reported
returns-clause-reported g c = λ n ds e f h k. one_fault (g.C.StrictSingularCodec.fault n) ds e f h k

pub returns-clause-absent : goal.returns-clause-absent
returns-clause-absent g c = λ n ds o h k.
    absent_by (g.C.StrictSingularCodec.fault n) (g.C.SingularCodec.one 100 defaults) (g.met.C.StrictSingularCodec.faultless_read n defaults) ds o h k
