use Rattle.std.proofs.lemmas.Result.{err_from_is_err_and}
use Rattle.buffa_wire.proofs.ByValueLemmas.{write_more, write_stops}
use Rattle.buffa_fields.specs.facts.ListFacts.{elements_by_value, encoding_none}
use Rattle.buffa_fields.proofs.members.list.write_elements.Goals as goal

pub loop-value-init : goal.loop-value-init
loop-value-init g c = encoding_none g.C.ProtoType.field_data c.args.number (g.S.EncodeSink.written c.args.sink.now)

pub loop-value-preserved : goal.loop-value-preserved
loop-value-preserved g c =
    write_more (elements_by_value g.C.ProtoType.field_data c.args.number) g.C.Value.Blank.meaning c.args.values.now c.loop-value.value-index c.value-item.result c.loop-value-test.true c.value-item.is
    (g.S.EncodeSink.written c.args.sink.now) (g.S.EncodeSink.written c.loop-value.sink) (g.S.EncodeSink.written c.write_value.new.sink) c.loop-value.invariant c.in_ok-write_value.ensures

pub returns-in_err-write_value : goal.returns-in_err-write_value
returns-in_err-write_value g c =
    let p = err_from_is_err_and c.from_residual.result c.from_residual.ensures.1 in
    rw (p.1, p.2) (
      c.in_err-write_value.ensures.0,
      write_stops (elements_by_value g.C.ProtoType.field_data c.args.number) g.C.Value.Blank.meaning c.args.values.now c.loop-value.value-index c.value-item.result c.loop-value-test.true c.value-item.is
          (g.S.EncodeSink.written c.args.sink.now) (g.S.EncodeSink.written c.loop-value.sink) (g.S.EncodeSink.written c.write_value.new.sink) c.loop-value.invariant c.in_err-write_value.ensures.1,
    )
