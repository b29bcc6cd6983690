use Rattle.buffa_fields_laws.proofs.OneOfLemmas.{into_its_own, is_none_of_it, none_of_it, put_anew}
use Rattle.buffa_fields_laws.proofs.oneofs.cases_take_their_fields.Goals as goal

pub returns-clause-merged : goal.returns-clause-merged
returns-clause-merged g c = λ k d at old p w bs before r new after rest is partly h.
    into_its_own at g.C.Case.form d old k w bs before new after rest _ g.C.Case.merges p r is partly h

pub returns-clause-put : goal.returns-clause-put
returns-clause-put g c = λ k d at old w bs before x new after rest none h.
    put_anew at g.C.Case.form d old k w bs before new after rest _ g.C.Case.merges x none h

pub returns-clause-none_of_it : goal.returns-clause-none_of_it
returns-clause-none_of_it g c = λ o. (is_none_of_it o, none_of_it o)
