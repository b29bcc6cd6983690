use Rattle.buffa_message_set.proofs.ItemLemmas.{given_in_range}
use Rattle.buffa_message_set.proofs.message_set.read_item.Goals as goal

pub returns-clause-range : goal.returns-clause-range
returns-clause-range g c =
    given_in_range _ c.item_of.result (λ item. item.0) (λ item. item.1.items) _ _ _ _ c.in_ok-read_fields.ensures.reads (c.item_of.ensures.reads _)
