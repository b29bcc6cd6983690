use Rattle.std.proofs.Common.{◌∙◌, ◌∷◌, refl}
use Rattle.buffa_wire.proofs.PassLemmas.{slots_step}
use Rattle.buffa_wire.specs.Cache.{appended}
use Rattle.buffa_recursive.specs.Fixpoint.{semantics}
use Rattle.buffa_recursive.specs.InnerMessages.{encoding_by}
use Rattle.buffa_recursive.proofs.size_inner.inner_len.Goals as goal

pub returns : goal.returns
returns g c =
    let w = semantics g.M.RecursiveType.COST g.M.RecursiveType.schema g.M.RecursiveType.sound in
    let v = c.args.child.now in
    let sized = c.requires.keeps _ _ _ _ refl c.in_ok-inner.ensures in
    let is = sized.0 in
    let added = slots_step c.args.cache.now c.reserve.new.self c.size.new.arg3 c.set.new.self _ _ (w.slots v) c.in_ok-slot.ensures.place c.in_ok-slot.ensures.ok sized.1 c.set.ensures in
    (c.field_len.ensures (encoding_by w v) (w.records v) refl is, added ∙ (λ i. appended (is i ∷ w.slots v) c.args.cache.now))
