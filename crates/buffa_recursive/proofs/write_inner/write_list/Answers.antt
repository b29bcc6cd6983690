use Rattle.std.proofs.lemmas.Result.{err_from_is_err_and}
use Rattle.buffa_wire.specs.Records.{bytes}
use Rattle.buffa_fields.specs.facts.RepeatedMessageFacts.{written_no}
use Rattle.buffa_recursive.proofs.ListPassLemmas.{next_of, write_on, write_stops}
use Rattle.buffa_recursive.specs.Fixpoint.{semantics}
use Rattle.buffa_recursive.specs.InnerMessages.{encoding_by}
use Rattle.buffa_recursive.proofs.write_inner.write_list.Goals as goal

pub loop-child-init : goal.loop-child-init
loop-child-init g c =
    let w = semantics g.M.RecursiveType.COST g.M.RecursiveType.schema g.M.RecursiveType.sound in
    written_no (λ x. bytes (encoding_by w x)) (encoding_by w) w.slots c.args.number c.args.cache.now (g.S.EncodeSink.written c.args.sink.now)

pub write_inner-requires-clause-next : goal.write_inner-requires-clause-next
write_inner-requires-clause-next g c =
    let w = semantics g.M.RecursiveType.COST g.M.RecursiveType.schema g.M.RecursiveType.sound in
    next_of (λ x. bytes (encoding_by w x)) (encoding_by w) w.slots c.args.number c.args.inner_messages.now c.loop-child.child-index c.child-item.result c.loop-child-test.true c.child-item.is
    c.args.cache.now c.loop-child.cache (g.S.EncodeSink.written c.args.sink.now) (g.S.EncodeSink.written c.loop-child.sink) c.requires.next c.loop-child.invariant

pub loop-child-preserved : goal.loop-child-preserved
loop-child-preserved g c =
    let w = semantics g.M.RecursiveType.COST g.M.RecursiveType.schema g.M.RecursiveType.sound in
    write_on (λ x. bytes (encoding_by w x)) (encoding_by w) w.slots c.args.number c.args.inner_messages.now c.loop-child.child-index c.child-item.result c.loop-child-test.true c.child-item.is
    c.args.cache.now c.loop-child.cache c.write_inner.new.cache (g.S.EncodeSink.written c.args.sink.now) (g.S.EncodeSink.written c.loop-child.sink) (g.S.EncodeSink.written c.write_inner.new.sink) c.loop-child.invariant c.in_ok-write_inner.ensures

pub returns-in_err-write_inner : goal.returns-in_err-write_inner
returns-in_err-write_inner g c =
    let w = semantics g.M.RecursiveType.COST g.M.RecursiveType.schema g.M.RecursiveType.sound in
    let p = err_from_is_err_and c.from_residual.result c.from_residual.ensures.1 in
    rw (p.1, p.2) (write_stops (λ x. bytes (encoding_by w x)) (encoding_by w) w.slots c.args.number c.args.inner_messages.now c.loop-child.child-index c.child-item.result c.loop-child-test.true c.child-item.is
    c.args.cache.now c.loop-child.cache c.write_inner.new.cache (g.S.EncodeSink.written c.args.sink.now) (g.S.EncodeSink.written c.loop-child.sink) (g.S.EncodeSink.written c.write_inner.new.sink) c.in_err-write_inner.field-0.0 c.loop-child.invariant c.in_err-write_inner.ensures)
