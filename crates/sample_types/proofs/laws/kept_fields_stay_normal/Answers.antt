use Rattle.sample_types.proofs.KeepLemmas.{keep_stays_normal}
use Rattle.sample_types.proofs.laws.kept_fields_stay_normal.Goals as goal

pub returns-clause-merged : goal.returns-clause-merged
returns-clause-merged c = λ d rs qs bs k normal merged. (tt, keep_stays_normal d rs qs bs k normal.1 merged)

pub returns-clause-blank : goal.returns-clause-blank
returns-clause-blank c = (tt, tt)
