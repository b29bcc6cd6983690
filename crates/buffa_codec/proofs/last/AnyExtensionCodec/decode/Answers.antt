use Rattle.std.proofs.Common.{sym, ap, ◌∙◌, arith, option_map}
use Rattle.buffa_wire.specs.RecordsOfValues.{records_in}
use Rattle.buffa_codec.specs.RecordsOfNumber.{sub}
use Rattle.buffa_codec.specs.Decoded.{last_read}
use Rattle.buffa_wire.specs.BudgetLeft.{defaults}
use Rattle.buffa_codec.proofs.LastLemmas.{none_at_other, none_at_unread, found_last, last_there}
use Rattle.buffa_codec.proofs.last.AnyExtensionCodec.decode.Goals as goal

pub loop-i-preserved-in-None : goal.loop-i-preserved-in-None
loop-i-preserved-in-None g c = record {
  in_range = omega arith;
  none_after = none_at_unread (g.C.SingularCodec.one 100 defaults) c.args.number c.as_slice-all.result.now c.loop-i.i c.index-all-i.result
      c.loop-i-test.true c.loop-i.invariant.in_range c.index-all-i.is c.if-field-number.true (sym c.in_ok-value.ensures.reads ∙ ap (option_map g.C.Value.Blank.meaning) c.in-None.is) c.loop-i.invariant.none_after;
}

pub loop-i-preserved : goal.loop-i-preserved
loop-i-preserved g c = record {
  in_range = omega arith;
  none_after = none_at_other (g.C.SingularCodec.one 100 defaults) c.args.number c.as_slice-all.result.now c.loop-i.i c.index-all-i.result
      c.loop-i-test.true c.loop-i.invariant.in_range c.index-all-i.is c.if-field-number.false c.loop-i.invariant.none_after;
}

pub returns-in-Some-clause-reads : goal.returns-in-Some-clause-reads
returns-in-Some-clause-reads g c =
    let one = g.C.SingularCodec.one 100 defaults in
    found_last one c.args.number c.as_slice-all.result.now c.loop-i.i c.index-all-i.result (g.C.Value.Blank.meaning c.in-Some.value)
    c.loop-i-test.true c.loop-i.invariant.in_range c.index-all-i.is c.if-field-number.true (sym (ap (option_map g.C.Value.Blank.meaning) c.in-Some.is) ∙ c.in_ok-value.ensures.reads) c.loop-i.invariant.none_after
    ∙ ap (λ l. last_read one (sub c.args.number l)) (ap records_in c.as_slice-all.ensures.value ∙ c.iter.ensures)

pub returns-in_err-value-clause-full : goal.returns-in_err-value-clause-full
returns-in_err-value-clause-full g c =
    last_there c.from_residual.result g.C.SingularCodec.asks (g.C.SingularCodec.one 100 defaults) c.args.number c.as_slice-all.result.now c.loop-i.i c.index-all-i.result c.args.fields.now.records
    c.loop-i-test.true c.loop-i.invariant.in_range c.index-all-i.is c.if-field-number.true (ap records_in c.as_slice-all.ensures.value ∙ c.iter.ensures) c.loop-i.invariant.none_after c.in_err-value.ensures.full
