use Rattle.std.proofs.Common.{inl, inr, refl}
use Rattle.buffa_fields_laws.proofs.RecordLemmas.{element_fault, value_fault}
use Rattle.buffa_fields_laws.proofs.refusals.refused_elements_are_not_put.Goals as goal

pub returns-clause-one : goal.returns-clause-one
returns-clause-one g k = λ d v n w bs left e u one h. (h.0 one).0

pub returns-clause-fault : goal.returns-clause-fault
returns-clause-fault g k = λ d v n w bs left e u one h some.
    let codec = g.C.MapValueDecode.reading in value_fault codec d codec.blank n w bs e ((h.0 one).1 some)

pub returns-clause-packed : goal.returns-clause-packed
returns-clause-packed g k = λ d v n bs left e u other h. elim (h.1 other refl) [
  | inl a ↦ inl a
  | inr (b, after, there, (front, rest, split, read, fault)) ↦ inr (b, after, there, front, rest, split, read, λ some. element_fault g.C.MapValueDecode.reading d u rest e (fault some))
]
