use Rattle.buffa_ext_laws.proofs.ItemPinLemmas.{written_item_is_pinned}
use Rattle.buffa_ext_laws.proofs.items.written_items_are_pinned.Goals as goal

pub returns : goal.returns
returns c = written_item_is_pinned
