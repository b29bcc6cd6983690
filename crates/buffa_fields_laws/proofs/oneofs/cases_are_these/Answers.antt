use Rattle.buffa_fields.specs.OneOfParts.{case}
use Rattle.buffa_fields_laws.proofs.oneofs.cases_are_these.Goals as goal

pub returns-clause-there : goal.returns-clause-there
returns-clause-there g c = λ v. g.C.Case.words.there v

pub returns-clause-absent : goal.returns-clause-absent
returns-clause-absent g c = λ k. ((case k g.C.Case.words g.E.OneOf.cases.all).laws.absent, g.C.Case.words.absent)
