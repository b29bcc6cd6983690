use Rattle.buffa_ext_laws.proofs.FrontLemmas.{read_where_left}
use Rattle.buffa_ext_laws.proofs.items.item_words_are_these.Goals as goal

pub returns-clause-left : goal.returns-clause-left
returns-clause-left c = read_where_left
