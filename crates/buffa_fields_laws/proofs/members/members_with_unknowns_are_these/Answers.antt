use Rattle.std.proofs.Common.{◌≡◌, ◌==◌, ℕ, Bool, true, false, refl}
use Rattle.std.proofs.lemmas.Bool.{eq-eqb}
use Rattle.buffa_fields_laws.proofs.KeptLemmas.{goes_to_unknowns}
use Rattle.buffa_fields.specs.UnknownsOfMembers.{Unknowns, TookWithUnknowns}
use Rattle.buffa_fields.specs.Schema.{Choice, Schema, Shape}
use Rattle.buffa_fields.specs.MemberList.{field, field_with_unknowns}
use Rattle.buffa_fields.specs.TakenClauses.{LeavesAlone}
use Rattle.buffa_fields_laws.proofs.members.members_with_unknowns_are_these.Goals as goal

pub returns-clause-behind : goal.returns-clause-behind
returns-clause-behind g c = λ k get keeps. goes_to_unknowns k get g.N.Member.shape g.N.KeepsUnknowns.unknowns g.M.MessageFields.schema keeps

-- a field of its number leaves another member, behind it, as it is
leaves_alone : {M P Q A B C : Type 0} (k j : ℕ) (get : M → P) (other : M → Q) (s : Shape P A) (a : Unknowns A) (o : Shape Q B) (l : Schema M C) →
    LeavesAlone (field_with_unknowns k get s a (field j other o l)).Taken k other
leaves_alone {M} k j get other s a o l d old w bs before r new after rest h = at (k == k) (eq-eqb k k refl) h
  where
    at : (t : Bool) → t ≡ true → Choice t (TookWithUnknowns s a d (get old) (l.kept (l.meaning old)) k w bs before r (get new) (l.kept (l.meaning new)) after rest × ((other new ≡ other old) × l.SameBut old new))
        ((get new ≡ get old) × (field j other o l).Taken d old k w bs before r new after rest) → other new ≡ other old
    at true is h = h.1.0
    at false is h = cc

pub returns-clause-others : goal.returns-clause-others
returns-clause-others g c = λ k j get other. leaves_alone k j get other g.N.Member.shape g.N.KeepsUnknowns.unknowns g.O.Member.shape g.M.MessageFields.schema
