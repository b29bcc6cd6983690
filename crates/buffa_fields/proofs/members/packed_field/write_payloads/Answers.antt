use Rattle.std.proofs.Common.{append-nil, sym}
use Rattle.std.proofs.lemmas.Result.{err_from_is_err_and}
use Rattle.buffa_wire.proofs.ByValueLemmas.{encodings_by_value, write_more, write_stops}
use Rattle.buffa_fields.proofs.members.packed_field.write_payloads.Goals as goal

pub loop-value-init : goal.loop-value-init
loop-value-init g c = sym (append-nil (g.S.EncodeSink.written c.args.sink.now))

pub loop-value-preserved : goal.loop-value-preserved
loop-value-preserved g c =
    write_more (encodings_by_value g.C.MapCodec.writing.encoding) g.C.Value.Blank.meaning c.args.values.now c.loop-value.value-index c.value-item.result c.loop-value-test.true c.value-item.is
    (g.S.EncodeSink.written c.args.sink.now) (g.S.EncodeSink.written c.loop-value.sink) (g.S.EncodeSink.written c.encode.new.sink) c.loop-value.invariant c.in_ok-encode.ensures.writes

pub returns-in_err-encode : goal.returns-in_err-encode
returns-in_err-encode g c =
    let p = err_from_is_err_and c.from_residual.result c.from_residual.ensures.1 in
    rw (p.1, p.2) (
      c.in_err-encode.ensures.writes.0,
      write_stops (encodings_by_value g.C.MapCodec.writing.encoding) g.C.Value.Blank.meaning c.args.values.now c.loop-value.value-index c.value-item.result c.loop-value-test.true c.value-item.is
          (g.S.EncodeSink.written c.args.sink.now) (g.S.EncodeSink.written c.loop-value.sink) (g.S.EncodeSink.written c.encode.new.sink) c.loop-value.invariant c.in_err-encode.ensures.writes.1,
    )
