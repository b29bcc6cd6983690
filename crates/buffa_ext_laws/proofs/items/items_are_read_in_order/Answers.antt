use Rattle.buffa_ext_laws.proofs.OrderLemmas.{ended, id_more, message_more, no_id, other_more}
use Rattle.buffa_ext_laws.proofs.items.items_are_read_in_order.Goals as goal

pub returns-clause-type_id : goal.returns-clause-type_id
returns-clause-type_id g = λ d n fs tag p o msg is_tag v range h. id_more d n fs tag p o msg is_tag v range h

pub returns-clause-message : goal.returns-clause-message
returns-clause-message g = λ d fs tag l m o msg is_tag v h. message_more d fs tag l m o msg is_tag v h

pub returns-clause-other : goal.returns-clause-other
returns-clause-other g = λ d n w fs f o msg field a b e h. other_more d n w fs f o msg field a b e h

pub returns-clause-item : goal.returns-clause-item
returns-clause-item g = λ d id fs end msg is h. ended d id fs end msg is h

pub returns-clause-missing : goal.returns-clause-missing
returns-clause-missing g = λ d fs end rest msg is h. no_id d fs end rest msg is h
