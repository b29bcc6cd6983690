use Rattle.std.proofs.Common.{◌-◌, arith}
use Rattle.std.proofs.lemmas.Result.{err_from_is_err_and}
use Rattle.buffa_wire.specs.Pinned.{done}
use Rattle.sample_types.specs.CountFacts.{nothing_counted, count_short, count_turn}
use Rattle.sample_types.proofs.count.write_count.Goals as goal

pub returns-in_err-write_one : goal.returns-in_err-write_one
returns-in_err-write_one g c =
    let p = err_from_is_err_and c.from_residual.result c.from_residual.ensures.1 in
    let now = g.S.EncodeSink.written c.fields.sink in
    let new = g.S.EncodeSink.written c.write_one.new.sink in
    c.fields.invariant.whole c.from_residual.result new (count_short p.1 p.2 now new c.fields.left (c.fields.left - 1) (omega (arith, c.fields-test.true)) c.in_err-write_one.ensures)

pub fields-preserved : goal.fields-preserved
fields-preserved g c =
    let now = g.S.EncodeSink.written c.fields.sink in
    let mid = g.S.EncodeSink.written c.write_one.new.sink in
    record {
      whole = λ r b h. c.fields.invariant.whole r b (count_turn r now mid b c.fields.left (c.fields.left - 1) (omega (arith, c.fields-test.true)) c.in_ok-write_one.ensures h);
    }

pub returns : goal.returns
returns g c =
    let now = g.S.EncodeSink.written c.fields.sink in
    c.fields.invariant.whole done now (nothing_counted now c.fields.left (omega (arith, c.fields-test.false)))
