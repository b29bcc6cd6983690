use Rattle.buffa_message_set.proofs.GroupLemmas.{group_alike, item_group, item_no_limit}
use Rattle.buffa_ext_laws.proofs.items.items_are_groups.Goals as goal

pub returns-clause-group : goal.returns-clause-group
returns-clause-group c = item_group

pub returns-clause-alike : goal.returns-clause-alike
returns-clause-alike c = group_alike

pub returns-clause-no_limit : goal.returns-clause-no_limit
returns-clause-no_limit c = item_no_limit
