use Rattle.std.proofs.Common.{Ok, Err, Some, refl, sym, ap, ◌∙◌}
use Rattle.std.specs.Option.{option_map}
use Rattle.std.proofs.lemmas.Result.{err_from_is_err_and}
use Rattle.buffa_fields.specs.Schema.{AsksAsSaid, RefusesAsSaid, TakesAsSaid, TellsWrongType}
use Rattle.buffa_fields.specs.facts.FieldAndOthersFacts.{part_taken}
use Rattle.buffa_fields.specs.Values.{field_value_at, free, some_taken, value_taken}
use Rattle.buffa_fields.proofs.members.explicit_field.ExplicitFieldMember.merge.Goals as goal

pub returns-clause-taken : goal.returns-clause-taken
unfolding TakesAsSaid
returns-clause-taken g c =
    let codec = g.C.MapValueDecode.reading in
    let says = g.C.Value.Blank.meaning in
    let d = c.args.ctx.depth in
    let n = c.args.tag.number in
    let w = c.args.tag.wire_type in
    let fresh = g.met.C.MapValueDecode.blank ∙ sym c.blank-value.ensures in
    part_taken (value_taken codec) free (some_taken codec) free d n w (says c.blank-value.result) (option_map says c.args.part.now) (λ x. Some x) (λ p. ap (λ z. option_map (λ x. Some x) (value_taken codec d z n w p)) fresh) (λ bs. refl)
    c.args.buf.now.now c.take_value.new.buf.now c.args.ctx.budget.now _ (Ok tt) (says c.take_value.new.value) c.in_ok-take_value.ensures.taken

pub returns-clause-memory : goal.returns-clause-memory
unfolding AsksAsSaid
returns-clause-memory g c = tt

pub returns-clause-wrong_type : goal.returns-clause-wrong_type
unfolding TellsWrongType
returns-clause-wrong_type g c = λ e other. let k = (c.in_ok-take_value.ensures.wire e other).0 in cc

pub returns-clause-refused : goal.returns-clause-refused
unfolding RefusesAsSaid
returns-clause-refused g c = λ e bad. cc

pub returns-in_err-take_value-clause-taken : goal.returns-in_err-take_value-clause-taken
unfolding TakesAsSaid
returns-in_err-take_value-clause-taken g c =
    let codec = g.C.MapValueDecode.reading in
    let says = g.C.Value.Blank.meaning in
    let d = c.args.ctx.depth in
    let n = c.args.tag.number in
    let w = c.args.tag.wire_type in
    let fresh = g.met.C.MapValueDecode.blank ∙ sym c.blank-value.ensures in
    let p = err_from_is_err_and c.from_residual.result c.from_residual.ensures.1 in
    rw (p.1, p.2) (part_taken (value_taken codec) free (some_taken codec) free d n w (says c.blank-value.result) (option_map says c.args.part.now) (λ x. Some x) (λ p. ap (λ z. option_map (λ x. Some x) (value_taken codec d z n w p)) fresh) (λ bs. refl)
    c.args.buf.now.now c.take_value.new.buf.now c.args.ctx.budget.now _ (Err c.in_err-take_value.field-0.0) (says c.take_value.new.value) c.in_err-take_value.ensures.taken)

pub returns-in_err-take_value-clause-memory : goal.returns-in_err-take_value-clause-memory
unfolding AsksAsSaid
returns-in_err-take_value-clause-memory g c =
    let p = err_from_is_err_and c.from_residual.result c.from_residual.ensures.1 in
    rw (p.1, p.2) c.in_err-take_value.ensures.full

pub returns-in_err-take_value-clause-wrong_type : goal.returns-in_err-take_value-clause-wrong_type
unfolding TellsWrongType
returns-in_err-take_value-clause-wrong_type g c =
    let p = err_from_is_err_and c.from_residual.result c.from_residual.ensures.1 in
    rw (p.1, p.2) (λ e other. let k = c.in_err-take_value.ensures.wire e other in (k.0, refl, k.2))

pub returns-in_err-take_value-clause-refused : goal.returns-in_err-take_value-clause-refused
unfolding RefusesAsSaid
returns-in_err-take_value-clause-refused g c =
    let codec = g.C.MapValueDecode.reading in
    let d = c.args.ctx.depth in
    let n = c.args.tag.number in
    let w = c.args.tag.wire_type in
    let fresh = g.met.C.MapValueDecode.blank ∙ sym c.blank-value.ensures in
    let p = err_from_is_err_and c.from_residual.result c.from_residual.ensures.1 in
    rw (p.1, p.2) (λ e same. (refl, λ ne. ap (λ z. field_value_at codec d z n w c.args.buf.now.now) fresh ∙ (c.in_err-take_value.ensures.refused e same).1 ne))
