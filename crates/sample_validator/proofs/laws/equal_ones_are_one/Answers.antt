use Rattle.sample_validator.proofs.PinLemmas.{rules_decide}
use Rattle.sample_validator.proofs.laws.equal_ones_are_one.Goals as goal

pub returns-clause-rules : goal.returns-clause-rules
returns-clause-rules c = rules_decide
