use Rattle.std.proofs.Common.{refl}
use Rattle.std.proofs.lemmas.Bool.{eq-eqb, ne_eqb}
use Rattle.buffa_fields_laws.proofs.records.fields_go_to_their_members.Goals as goal

pub returns-clause-own : goal.returns-clause-own
returns-clause-own g c = λ d k get v w p. rw (eq-eqb k k refl) refl

pub returns-clause-others : goal.returns-clause-others
returns-clause-others g c = λ d k n get v w p other. rw (ne_eqb n k other) refl

pub returns-clause-own_charge : goal.returns-clause-own_charge
returns-clause-own_charge g c = λ d k get w bs. rw (eq-eqb k k refl) (refl, refl)

pub returns-clause-other_charges : goal.returns-clause-other_charges
returns-clause-other_charges g c = λ d k n get w bs other. rw (ne_eqb n k other) (refl, refl)

pub returns-clause-own_unknowns : goal.returns-clause-own_unknowns
returns-clause-own_unknowns g c = λ d k get v w p. rw (eq-eqb k k refl) refl

pub returns-clause-other_unknowns : goal.returns-clause-other_unknowns
returns-clause-other_unknowns g c = λ d k n get v w p other. rw (ne_eqb n k other) refl
