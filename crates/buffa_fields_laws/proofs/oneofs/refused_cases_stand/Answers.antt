use Rattle.buffa_fields_laws.proofs.OneOfLemmas.{own_said}
use Rattle.buffa_fields.specs.Cases.{this_of}
use Rattle.buffa_fields_laws.proofs.oneofs.refused_cases_stand.Goals as goal

pub returns-clause-own : goal.returns-clause-own
returns-clause-own g c = λ k at d old w bs before e new after rest h p is.
    own_said (λ o. this_of (at o)) g.C.Case.form d old k w bs before e new after rest _ g.C.Case.merges p is h
