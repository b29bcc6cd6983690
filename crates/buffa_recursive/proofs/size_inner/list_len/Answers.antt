use Rattle.std.proofs.lemmas.Result.{err_from_is_err_and}
use Rattle.buffa_wire.specs.Records.{bytes}
use Rattle.buffa_fields.specs.facts.RepeatedMessageFacts.{sized_none}
use Rattle.buffa_recursive.proofs.ListPassLemmas.{have_slots, size_on, size_stops}
use Rattle.buffa_recursive.specs.Fixpoint.{semantics}
use Rattle.buffa_recursive.specs.InnerMessages.{encoding_by}
use Rattle.buffa_recursive.proofs.size_inner.list_len.Goals as goal

pub loop-child-init : goal.loop-child-init
loop-child-init g c =
    let w = semantics g.M.RecursiveType.COST g.M.RecursiveType.schema g.M.RecursiveType.sound in
    sized_none (λ x. bytes (encoding_by w x)) (encoding_by w) w.slots c.args.number c.args.cache.now

pub loop-child-preserved : goal.loop-child-preserved
loop-child-preserved g c =
    let w = semantics g.M.RecursiveType.COST g.M.RecursiveType.schema g.M.RecursiveType.sound in
    size_on (λ x. bytes (encoding_by w x)) (encoding_by w) w.slots c.args.number c.args.inner_messages.now c.loop-child.child-index c.child-item.result c.loop-child-test.true c.child-item.is
    c.args.cache.now c.loop-child.cache c.inner_len.new.cache c.loop-child.total _ _ c.loop-child.invariant c.in_ok-len.ensures c.saturating_add-total.ensures

pub returns-in_err-len-clause-sized : goal.returns-in_err-len-clause-sized
returns-in_err-len-clause-sized g c =
    let w = semantics g.M.RecursiveType.COST g.M.RecursiveType.schema g.M.RecursiveType.sound in
    let p = err_from_is_err_and c.from_residual.result c.from_residual.ensures.1 in
    rw (p.1, p.2) (size_stops (λ x. bytes (encoding_by w x)) (encoding_by w) w.slots c.args.number c.args.inner_messages.now c.loop-child.child-index c.child-item.result c.loop-child-test.true c.child-item.is
    c.args.cache.now c.loop-child.cache c.inner_len.new.cache c.loop-child.total _ c.loop-child.invariant c.in_err-len.ensures)

pub returns-in_err-len-clause-always : goal.returns-in_err-len-clause-always
returns-in_err-len-clause-always g c = λ none.
    let w = semantics g.M.RecursiveType.COST g.M.RecursiveType.schema g.M.RecursiveType.sound in
    absurd (have_slots (λ x. bytes (encoding_by w x)) (encoding_by w) w.slots c.args.number c.args.inner_messages.now c.loop-child.child-index c.child-item.result c.loop-child-test.true c.child-item.is none)
