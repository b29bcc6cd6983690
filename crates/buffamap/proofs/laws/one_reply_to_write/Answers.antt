use Rattle.buffamap.proofs.PinLemmas.{write_pinned}
use Rattle.buffamap.proofs.ThereLemmas.{write_there}
use Rattle.buffamap.proofs.laws.one_reply_to_write.Goals as goal

pub returns-clause-one : goal.returns-clause-one
returns-clause-one c = write_pinned c.args.number

pub returns-clause-there : goal.returns-clause-there
returns-clause-there c = write_there c.args.number
