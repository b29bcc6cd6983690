use Rattle.buffa_codec.proofs.FilteredLemmas.{set-set, without-without}
use Rattle.buffa_ext_laws.proofs.extensions.last_set_counts.Goals as goal

pub returns-clause-sets : goal.returns-clause-sets
returns-clause-sets c = set-set

pub returns-clause-clears : goal.returns-clause-clears
returns-clause-clears c = without-without
