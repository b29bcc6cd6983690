use Rattle.std.proofs.Common.{◌∙◌, ap, arith, length, subst}
use Rattle.std.proofs.lemmas.Result.{err_from_is_err_and}
use Rattle.buffa_bytes.specs.Written.{WritesFront}
use Rattle.buffa_wire.proofs.ByValueLemmas.{length_more, length_parts, write_more, write_stops}
use Rattle.buffa_wire.specs.RecordsOfValues.{record_of, records_in}
use Rattle.buffa_sets.specs.Set.{set_encoding}
use Rattle.buffa_sets.proofs.EncodingLemmas.{set_by_value}
use Rattle.buffa_sets.proofs.set.write.Goals as goal

pub loop-field-preserved : goal.loop-field-preserved
loop-field-preserved g c =
    let xs = c.as_slice-field-items.result.now in
    let i = c.loop-field.field-index in
    record {
      written = write_more set_by_value record_of xs i c.field-item.result c.loop-field-test.true c.field-item.is
          (g.S.EncodeSink.written c.args.sink.now) (g.S.EncodeSink.written c.loop-field.sink) (g.S.EncodeSink.written c.write_record.new.sink) c.loop-field.invariant.written c.in_ok-write_record.ensures.writes;
      room = omega (arith, c.in_ok-write_record.ensures.room, c.loop-field.invariant.room, length_more set_by_value record_of xs i c.field-item.result c.loop-field-test.true c.field-item.is);
    }

pub returns-in_err-write_record : goal.returns-in_err-write_record
returns-in_err-write_record g c =
    let p = err_from_is_err_and c.from_residual.result c.from_residual.ensures.1 in
    let w = c.in_err-write_record.ensures.writes in
    let xs = c.as_slice-field-items.result.now in
    let i = c.loop-field.field-index in
    let all = ap records_in c.as_slice-field-items.ensures.value ∙ c.iter.ensures in
    record {
      writes = rw (p.1, p.2) (
        w.0,
        subst (λ z. WritesFront (g.S.EncodeSink.written c.args.sink.now) (set_encoding z) (g.S.EncodeSink.written c.write_record.new.sink)) all
            (write_stops set_by_value record_of xs i c.field-item.result c.loop-field-test.true c.field-item.is
            (g.S.EncodeSink.written c.args.sink.now) (g.S.EncodeSink.written c.loop-field.sink) (g.S.EncodeSink.written c.write_record.new.sink) c.loop-field.invariant.written w.1),
      );
      room = rw p.1 (omega (arith, c.in_err-write_record.ensures.room, c.loop-field.invariant.room, length_parts set_by_value record_of xs i c.field-item.result c.loop-field-test.true c.field-item.is, ap (λ z. length (set_encoding z)) all));
    }
