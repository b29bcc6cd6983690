use Rattle.std.proofs.Common.{◌∙◌, length}
use Rattle.std.proofs.lemmas.Result.{err_from_is_err_and}
use Rattle.buffa_wire.proofs.PassLemmas.{next_ok}
use Rattle.buffa_wire.specs.Passes.{cap}
use Rattle.buffa_fields.proofs.FramingLemmas.{field_written, head_cut_off, message_cut_off}
use Rattle.buffa_fields.proofs.members.message_in.write_message.Goals as goal

pub returns-in_err-begin : goal.returns-in_err-begin
returns-in_err-begin g c =
    let v = g.N.Blank.meaning c.args.message.now in
    let e = g.N.MessageSpec.encoding v in
    let slots = g.N.MessageSpec.slots v in
    let written = g.S.EncodeSink.written in
    let inner = c.consume_next-inner in
    let p = err_from_is_err_and c.from_residual.result c.from_residual.ensures.1 in
    rw (p.1, p.2) (head_cut_off g.F.Framing.frame g.F.Framing.holds c.args.number e (g.N.MessageSpec.records v) (g.N.MessageSpec.encoding_records v) slots inner.result (inner.ensures.size ∙ (next_ok (cap (length e)) slots c.args.cache.now c.requires.next).1)
    c.args.cache.now inner.new.self inner.ensures.rest (written c.args.sink.now) (written c.begin.new.sink) _ c.in_err-begin.ensures)

pub returns-in_err-write_to : goal.returns-in_err-write_to
returns-in_err-write_to g c =
    let v = g.N.Blank.meaning c.args.message.now in
    let e = g.N.MessageSpec.encoding v in
    let slots = g.N.MessageSpec.slots v in
    let written = g.S.EncodeSink.written in
    let inner = c.consume_next-inner in
    let p = err_from_is_err_and c.from_residual-in_err-write_to.result c.from_residual-in_err-write_to.ensures.1 in
    rw (p.1, p.2) (message_cut_off g.F.Framing.frame g.F.Framing.holds c.args.number e (g.N.MessageSpec.records v) (g.N.MessageSpec.encoding_records v) slots inner.result (inner.ensures.size ∙ (next_ok (cap (length e)) slots c.args.cache.now c.requires.next).1)
    c.args.cache.now inner.new.self inner.ensures.rest (written c.args.sink.now) (written c.begin.new.sink) c.in_ok-begin.ensures _ c.write_to.new.cache (written c.write_to.new.sink) c.in_err-write_to.ensures)

pub returns : goal.returns
returns g c =
    let v = g.N.Blank.meaning c.args.message.now in
    let e = g.N.MessageSpec.encoding v in
    let slots = g.N.MessageSpec.slots v in
    let written = g.S.EncodeSink.written in
    let inner = c.consume_next-inner in
    field_written g.F.Framing.frame g.F.Framing.holds c.args.number e (g.N.MessageSpec.records v) (g.N.MessageSpec.encoding_records v) slots inner.result (inner.ensures.size ∙ (next_ok (cap (length e)) slots c.args.cache.now c.requires.next).1)
    c.args.cache.now inner.new.self inner.ensures.rest (written c.args.sink.now) (written c.begin.new.sink) c.in_ok-begin.ensures c.end.result c.write_to.new.cache (written c.write_to.new.sink) (written c.end.new.sink) c.in_ok-write_to.ensures c.end.ensures
