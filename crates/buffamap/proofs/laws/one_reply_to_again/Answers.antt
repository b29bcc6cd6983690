use Rattle.buffamap.proofs.PinLemmas.{again_pinned}
use Rattle.buffamap.proofs.ThereLemmas.{again_there}
use Rattle.buffamap.proofs.laws.one_reply_to_again.Goals as goal

pub returns-clause-one : goal.returns-clause-one
returns-clause-one g c = again_pinned g.M.MessageSpec.merged g.M.MessageSpec.cost g.M.MessageSpec.encoding g.M.Blank.blank_is

pub returns-clause-there : goal.returns-clause-there
returns-clause-there g c = again_there g.M.MessageSpec.merged g.M.MessageSpec.cost g.M.MessageSpec.encoding g.M.Blank.blank_is
