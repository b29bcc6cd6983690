use Rattle.sample_types.proofs.CountLemmas.{count_shortens, other_kept, other_refused, varint_counted, varint_refused, wire_refused}
use Rattle.sample_types.proofs.MergedLemmas.{field_merged, field_refused, none_merged, untagged_refused}
use Rattle.sample_types.specs.Count.{count_field}
use Rattle.sample_types.proofs.word_laws.fields_are_counted_so.Goals as goal

pub returns-clause-counted : goal.returns-clause-counted
returns-clause-counted c = λ d v x bs rest h. varint_counted d v bs x rest h

pub returns-clause-malformed : goal.returns-clause-malformed
returns-clause-malformed c = λ d v bs e h. varint_refused d v bs e h

pub returns-clause-other_wire : goal.returns-clause-other_wire
returns-clause-other_wire c = λ d v w bs other. wire_refused d v bs w other

pub returns-clause-passed_over : goal.returns-clause-passed_over
returns-clause-passed_over c = λ d v n w bs rest other h. other_kept d v bs n w rest other h

pub returns-clause-no_payload : goal.returns-clause-no_payload
returns-clause-no_payload c = λ d v n w bs e other h. other_refused d v bs n w e other h

pub returns-clause-nothing : goal.returns-clause-nothing
returns-clause-nothing c = λ d v. none_merged (count_field d) (count_shortens d) v

pub returns-clause-next : goal.returns-clause-next
returns-clause-next c = λ d v u n w bs mid rest tag h. field_merged (count_field d) (count_shortens d) v bs mid n w tag u rest h

pub returns-clause-refused : goal.returns-clause-refused
returns-clause-refused c = λ d v n w bs mid e tag h. field_refused (count_field d) (count_shortens d) v bs mid n w tag e h

pub returns-clause-no_tag : goal.returns-clause-no_tag
returns-clause-no_tag c = λ d v bs e some h. untagged_refused (count_field d) (count_shortens d) v bs e some h
