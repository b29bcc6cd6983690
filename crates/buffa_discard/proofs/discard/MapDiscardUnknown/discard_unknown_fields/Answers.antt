use Rattle.std.proofs.Common.{rules}
use Rattle.buffa_discard.proofs.DiscardLemmas.{values_kept}
use Rattle.buffa_discard.proofs.discard.MapDiscardUnknown.discard_unknown_fields.Goals as goal

pub returns : goal.returns
returns g c = values_kept _ g.M.DiscardUnknown.Discarded (λ f k v b w after t. search rules) _ _ _ c.retain.ensures.filtered
