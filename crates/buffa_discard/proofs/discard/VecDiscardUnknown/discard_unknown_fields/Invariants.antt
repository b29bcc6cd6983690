use Rattle.buffa_discard.proofs.DiscardLemmas.{FrontDiscarded}
use Rattle.buffa_discard.proofs.discard.VecDiscardUnknown.discard_unknown_fields.Given as goal

-- the messages before this one were gone through
abbrev pub invariant-messages : goal.invariant-messages
invariant-messages g l = FrontDiscarded g.M.DiscardUnknown.Discarded l.message-index l.fn.self.items l.message-items
