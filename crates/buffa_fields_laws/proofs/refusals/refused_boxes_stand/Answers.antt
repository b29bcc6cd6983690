use Rattle.buffa_fields_laws.proofs.refusals.refused_boxes_stand.Goals as goal

pub returns : goal.returns
returns g c = λ d each v n w bs left e u. ((λ h. (h.0.0, h.0.1, h.0.2, h.1)), (λ h. ((h.0, h.1, h.2), h.3)))
