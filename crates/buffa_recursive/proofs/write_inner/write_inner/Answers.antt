use Rattle.std.proofs.Common.{◌∙◌, length, refl}
use Rattle.std.proofs.lemmas.Result.{err_from_is_err_and}
use Rattle.buffa_wire.proofs.PassLemmas.{next_ok}
use Rattle.buffa_wire.specs.Passes.{cap}
use Rattle.buffa_fields.proofs.SubmessageLemmas.{head_short, record_written}
use Rattle.buffa_recursive.specs.Fixpoint.{semantics}
use Rattle.buffa_recursive.specs.InnerMessages.{encoding_by}
use Rattle.buffa_recursive.proofs.write_inner.write_inner.Goals as goal

pub returns : goal.returns
returns g c =
    let w = semantics g.M.RecursiveType.COST g.M.RecursiveType.schema g.M.RecursiveType.sound in
    let encoding = encoding_by w c.args.child.now in
    let slots = w.slots c.args.child.now in
    let written = g.S.EncodeSink.written in
    record_written c.args.number c.consume_next-inner.result encoding (c.consume_next-inner.ensures.size ∙ (next_ok (cap (length encoding)) slots c.args.cache.now c.requires.next).1) slots c.args.cache.now c.consume_next-inner.new.self c.write.new.arg3
    (written c.args.sink.now) (written c.begin.new.sink) (written c.write.new.arg4) c.consume_next-inner.ensures.rest c.write.result c.in_ok-begin.ensures (c.requires.keeps _ _ _ _ _ _ refl c.write.ensures)

pub returns-in_err-begin : goal.returns-in_err-begin
returns-in_err-begin g c =
    let w = semantics g.M.RecursiveType.COST g.M.RecursiveType.schema g.M.RecursiveType.sound in
    let encoding = encoding_by w c.args.child.now in
    let slots = w.slots c.args.child.now in
    let written = g.S.EncodeSink.written in
    let p = err_from_is_err_and c.from_residual.result c.from_residual.ensures.1 in
    rw (p.1, p.2) (head_short c.args.number c.consume_next-inner.result encoding (c.consume_next-inner.ensures.size ∙ (next_ok (cap (length encoding)) slots c.args.cache.now c.requires.next).1) slots c.args.cache.now c.consume_next-inner.new.self c.consume_next-inner.new.self
    (written c.args.sink.now) (written c.begin.new.sink) (written c.begin.new.sink) c.consume_next-inner.ensures.rest c.in_err-begin.field-0.0 c.in_err-begin.ensures)
