use Rattle.buffa_fields_laws.proofs.InsideLemmas.{all_have, has_all}
use Rattle.buffa_fields_laws.proofs.recursive_messages.what_is_asked_is_asked_of_each.Goals as goal

pub returns : goal.returns
returns g c = λ asked t. (all_have asked t, has_all asked t)
