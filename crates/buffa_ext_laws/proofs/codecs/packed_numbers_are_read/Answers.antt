use Rattle.buffa_bytes.proofs.PayloadValueLemmas.{payload_value_faulty, payload_value_taken}
use Rattle.buffa_codec.specs.PackedFacts.{numbers_end, numbers_in_none, numbers_step}
use Rattle.buffa_ext_laws.proofs.GrammarLemmas.{packed_sound, packed_complete}
use Rattle.buffa_ext_laws.proofs.codecs.packed_numbers_are_read.Goals as goal

pub returns-clause-whole : goal.returns-clause-whole
returns-clause-whole c = λ w bs ns. (packed_sound w bs ns, packed_complete w bs ns)

pub returns-clause-next : goal.returns-clause-next
returns-clause-next c = λ w bs rest x h. numbers_step w bs x rest (payload_value_taken w bs x rest h)

pub returns-clause-end : goal.returns-clause-end
returns-clause-end c = λ w bs e h. numbers_end w bs e (payload_value_faulty w bs e h)

pub returns-clause-none : goal.returns-clause-none
returns-clause-none c = numbers_in_none
