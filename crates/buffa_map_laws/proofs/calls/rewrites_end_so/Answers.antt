use Rattle.buffa_map_laws.proofs.calls.rewrites_end_so.Goals as goal

pub returns-clause-done : goal.returns-clause-done
returns-clause-done c = λ a b d f e. ((λ h. h, λ h. h), tt, tt)

pub returns-clause-not_decoded : goal.returns-clause-not_decoded
returns-clause-not_decoded c = λ a b f g e. (tt, (λ h. h, λ h. h), tt)

pub returns-clause-not_encoded : goal.returns-clause-not_encoded
returns-clause-not_encoded c = λ a b f d e. ((λ h. h, λ h. h), tt, (λ h. h, λ h. h))
