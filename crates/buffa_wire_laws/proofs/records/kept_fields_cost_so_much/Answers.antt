use Rattle.buffa_wire.proofs.KeepLemmas.{limit_reported, more_unknown}
use Rattle.buffa_wire_laws.proofs.records.kept_fields_cost_so_much.Goals as goal

pub returns-clause-limit : goal.returns-clause-limit
returns-clause-limit c = λ d s n w bs. limit_reported d n w bs s

pub returns-clause-more : goal.returns-clause-more
returns-clause-more c = λ d s k n w bs ne. more_unknown d n w bs s k ne
