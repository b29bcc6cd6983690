use Rattle.std.proofs.Common.{refl}
use Rattle.std.proofs.lemmas.Bool.{eq-eqb}
use Rattle.buffa_fields.specs.facts.CasesFacts.{put_this}
use Rattle.buffa_fields.specs.Submessages.{message_merged}
use Rattle.buffa_fields_laws.proofs.oneofs.messages_are_merged_into_their_case.Goals as goal

pub returns-clause-partly : goal.returns-clause-partly
unfolding message_merged
returns-clause-partly g c = λ k d v w p. rw (eq-eqb k k refl) (put_this _ (message_merged g.N.MessageSpec.merged d v k w p))

pub returns-clause-other : goal.returns-clause-other
unfolding message_merged
returns-clause-other g c = λ k d b w p. rw (eq-eqb k k refl) (put_this _ (message_merged g.N.MessageSpec.merged d g.N.Blank.blank_is k w p))

pub returns-clause-none : goal.returns-clause-none
unfolding message_merged
returns-clause-none g c = λ k d w p. rw (eq-eqb k k refl) (put_this _ (message_merged g.N.MessageSpec.merged d g.N.Blank.blank_is k w p))
