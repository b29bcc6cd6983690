use Rattle.std.proofs.Common.{arith}
use Rattle.buffa_wire.proofs.ByValueLemmas.{length_more}
use Rattle.buffa_fields.specs.facts.ListFacts.{count_none, elements_by_value}
use Rattle.buffa_fields.proofs.members.list.elements_len.Goals as goal

pub loop-value-init : goal.loop-value-init
loop-value-init g c = count_none g.C.ProtoType.field_data c.args.number

pub loop-value-preserved : goal.loop-value-preserved
loop-value-preserved g c =
    omega (
      arith,
      c.loop-value.invariant,
      c.value_len.ensures,
      c.saturating_add-total.ensures,
      length_more (elements_by_value g.C.ProtoType.field_data c.args.number) g.C.Value.Blank.meaning c.args.values.now c.loop-value.value-index c.value-item.result c.loop-value-test.true c.value-item.is,
    )
