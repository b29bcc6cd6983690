use Rattle.buffa_fields_laws.proofs.RecordLemmas.{value_fault}
use Rattle.buffa_fields_laws.proofs.refusals.refused_values_stay.Goals as goal

pub returns-clause-fault : goal.returns-clause-fault
returns-clause-fault g k = λ d v n w bs left e u h some. value_fault g.C.MapValueDecode.reading d v n w bs e (h.1 some)

pub returns-clause-optional_fault : goal.returns-clause-optional_fault
returns-clause-optional_fault g k = λ d v n w bs left e u h some.
    let codec = g.C.MapValueDecode.reading in value_fault codec d codec.blank n w bs e (h.1 some)
