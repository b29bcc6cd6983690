use Rattle.sample_validator.proofs.PinLemmas.{is_judged, not_both, one_violation}
use Rattle.sample_validator.proofs.laws.judgements_are_pinned.Goals as goal

pub returns-clause-judged : goal.returns-clause-judged
returns-clause-judged c = is_judged

pub returns-clause-either : goal.returns-clause-either
returns-clause-either c = not_both

pub returns-clause-reported : goal.returns-clause-reported
returns-clause-reported c = one_violation

pub returns-clause-accepted : goal.returns-clause-accepted
returns-clause-accepted c = is_judged

pub returns-clause-not_both : goal.returns-clause-not_both
returns-clause-not_both c = not_both

pub returns-clause-one : goal.returns-clause-one
returns-clause-one c = one_violation
