use Rattle.buffamap.proofs.PinLemmas.{read_pinned}
use Rattle.buffamap.proofs.ThereLemmas.{read_there}
use Rattle.buffamap.proofs.laws.one_reply_to_read.Goals as goal

pub returns-clause-one : goal.returns-clause-one
returns-clause-one c = read_pinned c.args.number

pub returns-clause-there : goal.returns-clause-there
returns-clause-there c = read_there c.args.number
