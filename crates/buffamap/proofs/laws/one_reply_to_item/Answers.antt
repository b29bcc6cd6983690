use Rattle.buffamap.proofs.PinLemmas.{item_pinned}
use Rattle.buffamap.proofs.ThereLemmas.{item_there}
use Rattle.buffamap.proofs.laws.one_reply_to_item.Goals as goal

pub returns-clause-one : goal.returns-clause-one
returns-clause-one c = item_pinned

pub returns-clause-there : goal.returns-clause-there
returns-clause-there c = item_there
