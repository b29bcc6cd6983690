use Rattle.buffa_ext_laws.proofs.HistoryLemmas.{takes_out}
use Rattle.buffa_ext_laws.proofs.extensions.clears_take_out.Goals as goal

pub returns : goal.returns
returns c = takes_out
