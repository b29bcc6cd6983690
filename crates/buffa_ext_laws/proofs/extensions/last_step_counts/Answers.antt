use Rattle.buffa_ext_laws.proofs.HistoryLemmas.{sub-after}
use Rattle.buffa_ext_laws.proofs.extensions.last_step_counts.Goals as goal

pub returns : goal.returns
returns c = sub-after
