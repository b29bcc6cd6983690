use Rattle.buffa_ext_laws.proofs.ItemPinLemmas.{item_is_pinned}
use Rattle.buffa_ext_laws.proofs.items.items_are_pinned.Goals as goal

pub returns : goal.returns
returns c = item_is_pinned
