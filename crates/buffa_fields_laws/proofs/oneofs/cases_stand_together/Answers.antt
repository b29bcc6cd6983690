use Rattle.std.proofs.Common.{sym}
use Rattle.buffa_fields.specs.facts.CasesFacts.{other_is, this_is}
use Rattle.buffa_fields.specs.OneOfParts.{some_cases}
use Rattle.buffa_fields_laws.proofs.oneofs.cases_stand_together.Goals as goal

pub returns-clause-this : goal.returns-clause-this
returns-clause-this g c = λ v.
    let some = g.E.OneOf.cases.all in
    let others = g.F.OneOf.cases.all in
    sym (this_is some.cases others.cases some.laws others.laws v)

pub returns-clause-other : goal.returns-clause-other
returns-clause-other g c = λ v.
    let some = g.E.OneOf.cases.all in
    let others = g.F.OneOf.cases.all in
    sym (other_is some.cases others.cases some.laws others.laws v)

pub returns-clause-absent : goal.returns-clause-absent
returns-clause-absent g c = (some_cases g.E.OneOf.cases.all g.F.OneOf.cases.all).laws.absent
