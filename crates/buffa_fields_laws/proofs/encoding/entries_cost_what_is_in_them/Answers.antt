use Rattle.buffa_fields_laws.proofs.RecordLemmas.{others_are_free}
use Rattle.buffa_fields_laws.proofs.encoding.entries_cost_what_is_in_them.Goals as goal

pub returns-clause-wire : goal.returns-clause-wire
returns-clause-wire g c = λ d n w bs other. (others_are_free _ d n w bs other, others_are_free _ d n w bs other)
