use Rattle.sample_types.proofs.laws.messages_are_read_back.Goals as goal

pub returns-clause-flat : goal.returns-clause-flat
returns-clause-flat c = λ v. (λ h. h.1.0.0, λ h. (c.members_read_back.ensures, ((h, tt), tt, tt)))

pub returns-clause-two : goal.returns-clause-two
returns-clause-two c = λ v. (λ h. (h.1.0.0, h.1.1.0.0), λ h. (c.members_read_back-2.ensures, ((h.0, tt), ((h.1, tt), tt, tt), tt)))

pub returns-clause-keep : goal.returns-clause-keep
returns-clause-keep c = λ rs. (λ h. h.1, λ h. (tt, h))
