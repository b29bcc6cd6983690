use Rattle.buffa_codec.proofs.FilteredLemmas.{sub-set_other}
use Rattle.buffa_ext_laws.proofs.HistoryLemmas.{comes_last}
use Rattle.buffa_ext_laws.proofs.extensions.sets_leave_others.Goals as goal

pub returns-clause-others : goal.returns-clause-others
returns-clause-others c = λ n k rs ds h. sub-set_other k n h rs ds

pub returns-clause-last : goal.returns-clause-last
returns-clause-last c = comes_last
