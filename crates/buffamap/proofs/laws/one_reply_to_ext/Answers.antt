use Rattle.buffamap.proofs.PinLemmas.{ext_pinned}
use Rattle.buffamap.proofs.ThereLemmas.{ext_there}
use Rattle.buffamap.proofs.laws.one_reply_to_ext.Goals as goal

pub returns-clause-one : goal.returns-clause-one
returns-clause-one c = ext_pinned c.args.number

pub returns-clause-there : goal.returns-clause-there
returns-clause-there c = ext_there c.args.number
