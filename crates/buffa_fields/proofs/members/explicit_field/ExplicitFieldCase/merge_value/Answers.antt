use Rattle.std.proofs.Common.{Ok, Err, Some, refl, sym, ap, ◌∙◌}
use Rattle.std.specs.Option.{option_map}
use Rattle.std.proofs.lemmas.Result.{err_from_is_err_and}
use Rattle.buffa_fields.specs.Schema.{AsksAsSaid, RefusesAsSaid, TakesAsSaid, TellsWrongType}
use Rattle.buffa_fields.specs.facts.FieldAndOthersFacts.{part_taken}
use Rattle.buffa_fields.specs.Values.{field_value_at, free, some_taken, value_taken}
use Rattle.buffa_fields.proofs.members.explicit_field.ExplicitFieldCase.merge_value.Goals as goal

pub returns : goal.returns
unfolding AsksAsSaid RefusesAsSaid TakesAsSaid TellsWrongType
returns g c =
    let codec = g.C.MapValueDecode.reading in
    let says = g.C.Value.Blank.meaning in
    let d = c.args.ctx.depth in
    let n = c.args.tag.number in
    let w = c.args.tag.wire_type in
    let fresh = g.met.C.MapValueDecode.blank ∙ sym c.blank-fresh.ensures in (
      part_taken (value_taken codec) free (some_taken codec) free d n w (says c.blank-fresh.result) (Some (says c.args.value.now)) (λ x. Some x) (λ p. ap (λ z. option_map (λ x. Some x) (value_taken codec d z n w p)) fresh) (λ bs. refl)
          c.args.buf.now.now c.take_value.new.buf.now c.args.ctx.budget.now _ (Ok tt) (says c.take_value.new.value) c.in_ok-take_value.ensures.taken,
      tt,
      λ e other. let k = (c.in_ok-take_value.ensures.wire e other).0 in cc,
      λ e bad. cc,
    )

pub returns-in_err-take_value : goal.returns-in_err-take_value
unfolding AsksAsSaid RefusesAsSaid TakesAsSaid TellsWrongType
returns-in_err-take_value g c =
    let codec = g.C.MapValueDecode.reading in
    let says = g.C.Value.Blank.meaning in
    let d = c.args.ctx.depth in
    let n = c.args.tag.number in
    let w = c.args.tag.wire_type in
    let p = err_from_is_err_and c.from_residual.result c.from_residual.ensures.1 in
    rw (p.1, p.2) (let fresh = g.met.C.MapValueDecode.blank ∙ sym c.blank-fresh.ensures in (
      part_taken (value_taken codec) free (some_taken codec) free d n w (says c.blank-fresh.result) (Some (says c.args.value.now)) (λ x. Some x) (λ p. ap (λ z. option_map (λ x. Some x) (value_taken codec d z n w p)) fresh) (λ bs. refl)
          c.args.buf.now.now c.take_value.new.buf.now c.args.ctx.budget.now _ (Err c.in_err-take_value.field-0.0) (says c.take_value.new.value) c.in_err-take_value.ensures.taken,
      c.in_err-take_value.ensures.full,
      λ e other. let k = c.in_err-take_value.ensures.wire e other in (k.0, refl, k.2),
      λ e same. (refl, λ ne. ap (λ z. field_value_at codec d z n w c.args.buf.now.now) fresh ∙ (c.in_err-take_value.ensures.refused e same).1 ne),
    ))
