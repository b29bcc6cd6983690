use Rattle.buffa_codec.proofs.FilteredLemmas.{sub-set}
use Rattle.buffa_ext_laws.proofs.HistoryLemmas.{exactly_set, keeps_the_rest}
use Rattle.buffa_ext_laws.proofs.extensions.sets_take_the_place.Goals as goal

pub returns-clause-place : goal.returns-clause-place
returns-clause-place c = sub-set

pub returns-clause-others : goal.returns-clause-others
returns-clause-others c = keeps_the_rest

pub returns-clause-exactly : goal.returns-clause-exactly
returns-clause-exactly c = exactly_set
