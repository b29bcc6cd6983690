use Rattle.buffa_message_set.proofs.ItemLemmas.{one_item}
use Rattle.buffa_ext_laws.proofs.items.no_item_begins_another.Goals as goal

pub returns : goal.returns
returns c = one_item
