use Rattle.buffa_ext_laws.proofs.FrontLemmas.{earlier_id, least_item, message_first, other_first}
use Rattle.buffa_ext_laws.proofs.items.items_are_these.Goals as goal

pub returns-clause-least : goal.returns-clause-least
returns-clause-least c = least_item

pub returns-clause-earlier_id : goal.returns-clause-earlier_id
returns-clause-earlier_id c = earlier_id

pub returns-clause-message : goal.returns-clause-message
returns-clause-message c = message_first

pub returns-clause-other : goal.returns-clause-other
returns-clause-other c = λ d id n w f b msg field two three one h. other_first d id n w f b msg field (two, three, one) h
