use Rattle.std.proofs.Common.{◌∙◌, ◌-◌, ap, refl, sym, arith}
use Rattle.std.proofs.lemmas.Result.{err_from_is_err_and}
use Rattle.buffa_bytes.proofs.FullLemmas.{tag_no_full}
use Rattle.buffa_bytes.specs.declared.error.DecodeError.TheVariants.{InvalidEndGroup, RecursionLimitExceeded}
use Rattle.buffa_wire.proofs.ByPayloadLemmas.{by_payload}
use Rattle.buffa_wire.proofs.MergeLoopLemmas.{begins, goes_on, reached, shorter, untouched}
use Rattle.buffa_fields.specs.Groups.{group_cost, group_merged}
use Rattle.buffa_fields.proofs.GroupLemmas.{ended, field_refused, no_group_tag, no_level, other_end, tells_field, tells_no_tag, tells_other_end}
use Rattle.buffa_fields.proofs.members.group_field.GroupedFraming.merge.Goals as goal

pub returns-then-depth-eq0-clause-taken : goal.returns-then-depth-eq0-clause-taken
unfolding group_cost group_merged
returns-then-depth-eq0-clause-taken g c =
    let old = g.N.Blank.meaning c.args.message.now in
    let bs = c.args.buf.now.now in
    let start = c.args.ctx.budget.now in
    no_level g.N.MessageSpec.merged g.N.MessageSpec.cost c.args.ctx.depth c.args.number old old bs bs start start RecursionLimitExceeded c.if-depth-eq0.true refl refl

pub loop-tag-init : goal.loop-tag-init
loop-tag-init g c = begins (by_payload g.N.MessageSpec.stays g.N.MessageSpec.merged_is g.N.MessageSpec.cost_is) (c.args.ctx.depth - 1) (g.N.Blank.meaning c.args.message.now) c.args.buf.now.now c.args.ctx.budget.now

pub loop-tag-smaller : goal.loop-tag-smaller
loop-tag-smaller g c = shorter (by_payload g.N.MessageSpec.stays g.N.MessageSpec.merged_is g.N.MessageSpec.cost_is) c.loop-tag.invariant _ _ _ c.in_ok-tag.ensures.reads _ _ _ c.in_ok-merge_field.ensures.merged

pub loop-tag-preserved : goal.loop-tag-preserved
loop-tag-preserved g c = goes_on (by_payload g.N.MessageSpec.stays g.N.MessageSpec.merged_is g.N.MessageSpec.cost_is) c.loop-tag.invariant _ _ _ c.in_ok-tag.ensures.reads _ _ _ c.in_ok-merge_field.ensures.merged

pub returns-in_err-tag-clause-taken : goal.returns-in_err-tag-clause-taken
unfolding group_cost group_merged
returns-in_err-tag-clause-taken g c =
    let p = err_from_is_err_and c.from_residual.result c.from_residual.ensures.1 in
    rw (p.1, p.2) (no_group_tag (by_payload g.N.MessageSpec.stays g.N.MessageSpec.merged_is g.N.MessageSpec.cost_is) c.args.number c.if-depth-eq0.false c.loop-tag.invariant _ c.in_err-tag.ensures.reads (g.N.Blank.meaning c.loop-tag.message) c.decode.new.buf.now)

pub returns-in_err-tag-clause-fault : goal.returns-in_err-tag-clause-fault
returns-in_err-tag-clause-fault g c =
    let p = err_from_is_err_and c.from_residual.result c.from_residual.ensures.1 in
    rw (p.1, p.2) (λ ne. tells_no_tag (by_payload g.N.MessageSpec.stays g.N.MessageSpec.merged_is g.N.MessageSpec.cost_is) c.args.number c.if-depth-eq0.false c.loop-tag.invariant _ c.in_err-tag.ensures.reads)

pub returns-in_err-tag-clause-full : goal.returns-in_err-tag-clause-full
returns-in_err-tag-clause-full g c =
    let p = err_from_is_err_and c.from_residual.result c.from_residual.ensures.1 in
    rw (p.1, p.2) (tag_no_full c.loop-tag.buf.now _ c.in_err-tag.ensures.reads)

pub returns-then-field_number-number-clause-taken : goal.returns-then-field_number-number-clause-taken
unfolding group_cost group_merged
returns-then-field_number-number-clause-taken g c =
    ended (by_payload g.N.MessageSpec.stays g.N.MessageSpec.merged_is g.N.MessageSpec.cost_is) c.args.number c.if-depth-eq0.false c.loop-tag.invariant _ _ _ c.in_ok-tag.ensures.reads (sym c.in-EndGroup.ensures) (sym c.field_number.ensures ∙ c.if-field_number-number.true)

pub returns-in-EndGroup-clause-taken : goal.returns-in-EndGroup-clause-taken
unfolding group_cost group_merged
returns-in-EndGroup-clause-taken g c =
    other_end (by_payload g.N.MessageSpec.stays g.N.MessageSpec.merged_is g.N.MessageSpec.cost_is) c.args.number c.if-depth-eq0.false c.loop-tag.invariant _ _ _ _ c.in_ok-tag.ensures.reads (sym c.in-EndGroup.ensures)
    (λ e. c.if-field_number-number.false (c.field_number.ensures ∙ e)) (ap (λ z. InvalidEndGroup z) c.field_number-in-EndGroup.ensures) (g.N.Blank.meaning c.loop-tag.message) c.decode.new.buf.now

pub returns-in-EndGroup-clause-fault : goal.returns-in-EndGroup-clause-fault
returns-in-EndGroup-clause-fault g c =
    λ ne. tells_other_end (by_payload g.N.MessageSpec.stays g.N.MessageSpec.merged_is g.N.MessageSpec.cost_is) c.args.number c.if-depth-eq0.false c.loop-tag.invariant _ _ _ _ c.in_ok-tag.ensures.reads (sym c.in-EndGroup.ensures)
    (λ e. c.if-field_number-number.false (c.field_number.ensures ∙ e)) (ap (λ z. InvalidEndGroup z) c.field_number-in-EndGroup.ensures)

pub returns-in_err-merge_field : goal.returns-in_err-merge_field
unfolding group_cost group_merged
returns-in_err-merge_field g c =
    let by = by_payload g.N.MessageSpec.stays g.N.MessageSpec.merged_is g.N.MessageSpec.cost_is in
    let there = reached by c.loop-tag.invariant _ _ _ c.in_ok-tag.ensures.reads (λ end. c.in_default.not-EndGroup (c.wire_type.ensures ∙ end)) in
    let p = err_from_is_err_and c.from_residual-in_err-merge_field.result c.from_residual-in_err-merge_field.ensures.1 in
    record {
      taken = rw (p.1, p.2) (field_refused by c.args.number c.if-depth-eq0.false c.loop-tag.invariant _ _ _ c.in_ok-tag.ensures.reads (λ end. c.in_default.not-EndGroup (c.wire_type.ensures ∙ end)) _ (g.N.Blank.meaning c.merge_field.new.self) c.merge_field.new.buf.now _ c.in_err-merge_field.ensures.merged);
      fault = rw (p.1, p.2) (λ ne. tells_field by c.args.number c.if-depth-eq0.false c.loop-tag.invariant c.in_err-merge_field.field-0.0 there);
      full = rw (p.1, p.2) (λ full. (refl, omega (arith, c.if-depth-eq0.false), there));
      level = λ none. absurd (c.if-depth-eq0.false none);
      stays = λ no. absurd (no there);
    }

pub returns-in_err-tag-clause-stays : goal.returns-in_err-tag-clause-stays
returns-in_err-tag-clause-stays g c = untouched (by_payload g.N.MessageSpec.stays g.N.MessageSpec.merged_is g.N.MessageSpec.cost_is) c.loop-tag.invariant

pub returns-then-field_number-number-clause-stays : goal.returns-then-field_number-number-clause-stays
returns-then-field_number-number-clause-stays g c = untouched (by_payload g.N.MessageSpec.stays g.N.MessageSpec.merged_is g.N.MessageSpec.cost_is) c.loop-tag.invariant

pub returns-in-EndGroup-clause-stays : goal.returns-in-EndGroup-clause-stays
returns-in-EndGroup-clause-stays g c = untouched (by_payload g.N.MessageSpec.stays g.N.MessageSpec.merged_is g.N.MessageSpec.cost_is) c.loop-tag.invariant
