use Rattle.buffa_sets.specs.SetFacts.{nest_one_deep}
use Rattle.sample_set_msg.proofs.laws.sets_are_read_back.Goals as goal

pub returns-clause-deep : goal.returns-clause-deep
returns-clause-deep c = nest_one_deep
