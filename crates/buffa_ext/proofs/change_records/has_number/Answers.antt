use Rattle.std.proofs.Common.{ap, ◌∙◌, ◌≢◌, [], refl}
use Rattle.buffa_wire.specs.RecordsOfValues.{records_in}
use Rattle.buffa_codec.specs.RecordsOfNumber.{sub}
use Rattle.buffa_codec.proofs.TurnLemmas.{one_is_there, none_so_far}
use Rattle.buffa_ext.proofs.change_records.has_number.Goals as goal

pub loop-field-preserved : goal.loop-field-preserved
loop-field-preserved c = none_so_far c.args.number c.as_slice-field-items.result.now c.loop-field.field-index c.field-item.result c.loop-field-test.true c.field-item.is c.if-field-number.false c.loop-field.invariant

pub returns-then-field-number : goal.returns-then-field-number
returns-then-field-number c =
    let there : sub c.args.number c.args.fields.now.records ≢ [] = λ e. one_is_there c.args.number c.as_slice-field-items.result.now c.loop-field.field-index c.field-item.result c.loop-field-test.true c.field-item.is c.if-field-number.true
    (ap (sub c.args.number) (ap records_in c.as_slice-field-items.ensures.value ∙ c.iter.ensures) ∙ e) in
    ((λ t. there), (λ t. refl))
