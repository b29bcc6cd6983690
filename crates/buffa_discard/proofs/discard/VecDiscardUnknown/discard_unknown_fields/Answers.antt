use Rattle.std.proofs.Common.{rules, ◌≡◌, ◌∙◌, ◌++◌, length, drop, take, arith, ap, sym, subst, refl}
use Rattle.std.proofs.Math.Seq.{take-append_seam}
use Rattle.buffa_discard.specs.Discarded.{EachDiscarded}
use Rattle.buffa_discard.proofs.DiscardLemmas.{front_all, front_next}
use Rattle.buffa_discard.proofs.discard.VecDiscardUnknown.discard_unknown_fields.Goals as goal

pub messages-preserved : goal.messages-preserved
messages-preserved g c =
    front_next g.M.DiscardUnknown.Discarded c.message-item.result c.messages.message-index _ c.args.self.now.items c.messages.message-items _ c.discard_unknown_fields.new.self c.messages.invariant (omega arith)
    (omega (arith, c.messages-test.true, ap length c.deref_mut-message-items.ensures.value)) (search rules) refl

pub returns : goal.returns
returns g c =
    let same : c.args.self.now.len ≡ length c.messages.message-items = omega (arith, c.messages.auto.message-items, c.deref_mut-message-items.ensures.len) in
    subst (EachDiscarded g.M.DiscardUnknown.Discarded c.args.self.now.items)
    (sym (ap (λ n. take n (c.messages.message-items ++ drop (length c.messages.message-items) c.args.self.now.items)) same ∙ take-append_seam c.messages.message-items _))
    (front_all g.M.DiscardUnknown.Discarded c.messages.message-index c.args.self.now.items c.messages.message-items (omega (arith, c.messages-test.false, ap length c.deref_mut-message-items.ensures.value)) c.messages.invariant)
