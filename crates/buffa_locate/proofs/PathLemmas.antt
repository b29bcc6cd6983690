-- Paths that grow.
use Rattle.std.proofs.Common.{◌≡◌, ℕ, List, [], ◌∷◌, ◌++◌, Option, None, Some, sym, ap, subst, ◌∙◌, append_assoc, append-nil}
use Rattle.buffa_bytes.specs.declared.tag.Tag.{Tag}
use Rattle.buffa_locate.specs.Places.{Extends, ExtendsIfFound, LeadsTo}
use Rattle.buffa_locate.specs.declared.place.Step.{Step}

extends_none : (path : List Step) → Extends path path
extends_none path = ([], sym (append-nil path))

-- whether something was found or not, the steps went behind
pub extends_found : (found : Option ℕ) (old new : List Step) → ExtendsIfFound found old new → Extends old new
extends_found None old new same = ([], same ∙ sym (append-nil old))
extends_found (Some at) old new on = on

-- steps to a record are steps
pub leads_extend : (t : Option Tag) (old new : List Step) → LeadsTo t old new → Extends old new
leads_extend None old new same = ([], same ∙ sym (append-nil old))
leads_extend (Some tag) old new (step, more, _, is) = (step ∷ more, is)

-- the step to the record is put, and others behind it
pub leads_on : (t : Option Tag) (tag : Tag) (step : Step) (old mid new : List Step) → t ≡ Some tag → step.number ≡ tag.number → mid ≡ old ++ (step ∷ []) → Extends mid new → LeadsTo t old new
leads_on t tag step old mid new is same put (more, on) =
    subst (λ z. LeadsTo z old new) (sym is)
    (step, more, same, on ∙ ap (λ (z : List Step). z ++ more) put ∙ append_assoc old (step ∷ []) more)

-- the step to the record is put
pub leads_now : (t : Option Tag) (tag : Tag) (step : Step) (old mid : List Step) → t ≡ Some tag → step.number ≡ tag.number → mid ≡ old ++ (step ∷ []) → LeadsTo t old mid
leads_now t tag step old mid is same put = leads_on t tag step old mid mid is same put (extends_none mid)
