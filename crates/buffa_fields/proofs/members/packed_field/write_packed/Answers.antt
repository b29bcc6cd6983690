use Rattle.std.proofs.Common.{arith}
use Rattle.std.proofs.lemmas.Result.{err_from_is_err_and}
use Rattle.buffa_fields.proofs.PackedLemmas.{packed_cut, packed_unwritten, packed_written}
use Rattle.buffa_fields.proofs.members.packed_field.write_packed.Goals as goal

pub returns-then-values-eq0 : goal.returns-then-values-eq0
returns-then-values-eq0 g c =
    packed_unwritten g.C.MapCodec.writing.encoding c.args.number g.C.Value.Blank.meaning c.args.values.now (omega arith) (g.S.EncodeSink.written c.args.sink.now) c.args._cache.now

pub returns : goal.returns
returns g c =
    packed_written g.C.MapCodec.writing.encoding c.args.number g.C.Value.Blank.meaning c.args.values.now (omega arith) c.payloads_len.result c.payloads_len.ensures c.args._cache.now
    (g.S.EncodeSink.written c.args.sink.now) (g.S.EncodeSink.written c.write_head.new.sink) (g.S.EncodeSink.written c.write_payloads.new.sink) c.write_payloads.result c.in_ok-write_head.ensures c.write_payloads.ensures

pub returns-in_err-write_head : goal.returns-in_err-write_head
returns-in_err-write_head g c =
    let new = g.S.EncodeSink.written c.write_head.new.sink in
    let p = err_from_is_err_and c.from_residual.result c.from_residual.ensures.1 in
    rw (p.1, p.2) (packed_cut g.C.MapCodec.writing.encoding c.args.number g.C.Value.Blank.meaning c.args.values.now (omega arith) c.payloads_len.result c.payloads_len.ensures c.args._cache.now
    (g.S.EncodeSink.written c.args.sink.now) new new c.in_err-write_head.field-0.0 c.in_err-write_head.ensures)
