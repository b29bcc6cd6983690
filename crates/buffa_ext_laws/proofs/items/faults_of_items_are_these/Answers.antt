use Rattle.buffa_ext_laws.proofs.FrontLemmas.{behind_id, behind_message, behind_other, no_payload, out_of_range}
use Rattle.buffa_ext_laws.proofs.items.faults_of_items_are_these.Goals as goal

pub returns-clause-out_of_range : goal.returns-clause-out_of_range
returns-clause-out_of_range c = out_of_range

pub returns-clause-no_payload : goal.returns-clause-no_payload
returns-clause-no_payload c = no_payload

pub returns-clause-behind_id : goal.returns-clause-behind_id
returns-clause-behind_id c = behind_id

pub returns-clause-behind_message : goal.returns-clause-behind_message
returns-clause-behind_message c = behind_message

pub returns-clause-behind_other : goal.returns-clause-behind_other
returns-clause-behind_other c = behind_other
