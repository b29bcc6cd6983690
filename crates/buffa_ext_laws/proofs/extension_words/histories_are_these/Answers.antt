use Rattle.buffa_ext_laws.proofs.HistoryLemmas.{history-clear, history-clear_other, history-set, history-set_other}
use Rattle.buffa_ext_laws.proofs.extension_words.histories_are_these.Goals as goal

pub returns-clause-set : goal.returns-clause-set
returns-clause-set c = history-set

pub returns-clause-clear : goal.returns-clause-clear
returns-clause-clear c = history-clear

pub returns-clause-other_set : goal.returns-clause-other_set
returns-clause-other_set c = history-set_other

pub returns-clause-other_clear : goal.returns-clause-other_clear
returns-clause-other_clear c = history-clear_other
