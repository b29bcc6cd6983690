use Rattle.buffa_fields.specs.facts.UndeclaredFieldFacts.{asks_kept, kept_asks_for, kept_costs, kept_record}
use Rattle.buffa_wire.proofs.KeepLemmas.{limit_reported}
use Rattle.buffa_fields_laws.proofs.members.kept_fields_are_these.Goals as goal

pub returns-clause-takes : goal.returns-clause-takes
returns-clause-takes g c = λ get d n x p v h. kept_record d n x p v h

pub returns-clause-asks : goal.returns-clause-asks
returns-clause-asks g c = λ get s d n w bs. (asks_kept s d n w bs, kept_asks_for s d n w bs)

pub returns-clause-charge : goal.returns-clause-charge
returns-clause-charge g c = λ get d n x p more h. kept_costs d n x p more h

pub returns-clause-limit : goal.returns-clause-limit
returns-clause-limit g c = λ get d s n w bs. limit_reported d n w bs s
