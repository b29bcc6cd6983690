use Rattle.std.proofs.Common.{map, subst}
use Rattle.buffa_codec.specs.Decoded.{CoversAll}
use Rattle.buffa_ext.specs.MessageFacts.{is_full}
use Rattle.conformance_extensions.proofs.FrontLemmas.{covers_from, covers_none}
use Rattle.conformance_extensions.proofs.normal.pay_all.Goals as goal

pub loop-value-init : goal.loop-value-init
loop-value-init g c =
    let t = g.C.SingularCodec in
    subst (λ b. CoversAll t.cost b (map t.field_data (map g.C.Value.Blank.meaning c.args.values.now))) (is_full c.new-budget.result c.new-budget.ensures.unknown c.new-budget.ensures.memory)

pub loop-value-preserved : goal.loop-value-preserved
loop-value-preserved g c =
    let t = g.C.SingularCodec in
    λ rest. c.loop-value.invariant (covers_from g.C.Value.Blank.meaning c.args.values.now c.loop-value.value-index c.value-item.result c.loop-value-test.true c.value-item.is
    t.cost t.field_data c.loop-value.budget c.pay.new.budget c.in_ok-pay.ensures rest)

pub returns : goal.returns
returns g c =
    let t = g.C.SingularCodec in
    c.loop-value.invariant (covers_none t.cost t.field_data g.C.Value.Blank.meaning c.loop-value.budget c.args.values.now c.loop-value.value-index c.loop-value-test.false)
