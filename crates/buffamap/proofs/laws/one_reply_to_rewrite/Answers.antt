use Rattle.buffamap.proofs.PinLemmas.{rewrite_pinned}
use Rattle.buffamap.proofs.ThereLemmas.{rewrite_there}
use Rattle.buffamap.proofs.laws.one_reply_to_rewrite.Goals as goal

pub returns-clause-one : goal.returns-clause-one
returns-clause-one c = rewrite_pinned c.args.number

pub returns-clause-there : goal.returns-clause-there
returns-clause-there c = rewrite_there c.args.number c.runs_are_read.ensures
