use Rattle.std.proofs.Common.{Bool, Option, Some, None}
use Rattle.buffa_fields.specs.Values.{IfThere}
use Rattle.sample_validator.proofs.laws.messages_are_read_back.Goals as goal

each_bit : (x : Option Bool) → IfThere (λ b. Unit {0} × Unit {0}) x
each_bit None = tt
each_bit (Some b) = (tt, tt)

pub returns-clause-options : goal.returns-clause-options
returns-clause-options c = λ v. (λ h. (h.1.1, h.1.2), λ h. (c.members_read_back.ensures, (each_bit v.0, h.0, h.1)))

pub returns-clause-carrier : goal.returns-clause-carrier
returns-clause-carrier c = λ rs. (λ h. h.1, λ h. (tt, h))
