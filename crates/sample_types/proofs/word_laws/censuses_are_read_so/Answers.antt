use Rattle.sample_types.proofs.CensusLemmas.{census_shortens, entry_put, entry_refused, length_refused, other_kept, other_refused, wire_refused}
use Rattle.sample_types.proofs.MergedLemmas.{field_merged, field_refused, none_merged, untagged_refused}
use Rattle.sample_types.specs.Census.{census_field}
use Rattle.sample_types.proofs.word_laws.censuses_are_read_so.Goals as goal

pub returns-clause-entry : goal.returns-clause-entry
returns-clause-entry c = λ d es bs p rest s there read known. entry_put d es bs p rest s there read known

pub returns-clause-no_entry : goal.returns-clause-no_entry
returns-clause-no_entry c = λ d es bs p rest e there bad. entry_refused d es bs p rest e there bad

pub returns-clause-no_length : goal.returns-clause-no_length
returns-clause-no_length c = λ d es bs e bad. length_refused d es bs e bad

pub returns-clause-other_wire : goal.returns-clause-other_wire
returns-clause-other_wire c = λ d es w bs other. wire_refused d es bs w other

pub returns-clause-passed_over : goal.returns-clause-passed_over
returns-clause-passed_over c = λ d es n w bs rest other h. other_kept d es bs n w rest other h

pub returns-clause-no_payload : goal.returns-clause-no_payload
returns-clause-no_payload c = λ d es n w bs e other h. other_refused d es bs n w e other h

pub returns-clause-nothing : goal.returns-clause-nothing
returns-clause-nothing c = λ d es. none_merged (census_field d) (census_shortens d) es

pub returns-clause-next : goal.returns-clause-next
returns-clause-next c = λ d es fs n w bs mid rest tag h. field_merged (census_field d) (census_shortens d) es bs mid n w tag fs rest h

pub returns-clause-refused : goal.returns-clause-refused
returns-clause-refused c = λ d es n w bs mid e tag h. field_refused (census_field d) (census_shortens d) es bs mid n w tag e h

pub returns-clause-no_tag : goal.returns-clause-no_tag
returns-clause-no_tag c = λ d es bs e some h. untagged_refused (census_field d) (census_shortens d) es bs e some h
