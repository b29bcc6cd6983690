use Rattle.std.proofs.Common.{◌∙◌, inl, Err, arith, ap}
use Rattle.std.proofs.lemmas.Result.{err_from_is_err_and}
use Rattle.buffa_bytes.proofs.FullLemmas.{tag_full}
use Rattle.buffa_wire.proofs.MergeLoopLemmas.{begins, ended, goes_on, no_tag, reached, refused_next, shorter, partly_merged_refused, partly_merged_untagged, tail}
use Rattle.buffa_sets.proofs.MergeLemmas.{by_payloads, stops, stops_at}
use Rattle.buffa_sets.specs.Set.{IsSetRefused}
use Rattle.buffa_sets.proofs.set.merge.Goals as goal

pub fields-init : goal.fields-init
fields-init c = begins by_payloads c.args.ctx.depth c.args.records.now.records c.args.buf.now.now c.args.ctx.budget.now

pub returns-in_err-tag-clause-merged : goal.returns-in_err-tag-clause-merged
returns-in_err-tag-clause-merged c =
    let p = err_from_is_err_and c.from_residual.result c.from_residual.ensures.1 in
    rw (p.1, p.2) (no_tag by_payloads c.fields.invariant c.in_err-tag.field-0.0 (omega (arith, c.remaining.ensures, c.fields-test.true)) c.in_err-tag.ensures.reads)

pub returns-in_err-tag-clause-stops : goal.returns-in_err-tag-clause-stops
returns-in_err-tag-clause-stops c =
    let p = err_from_is_err_and c.from_residual.result c.from_residual.ensures.1 in
    rw (p.1, p.2) (stops c.fields.invariant _ (omega (arith, c.remaining.ensures, c.fields-test.true)) (λ ne. inl c.in_err-tag.ensures.reads)
    (λ h. absurd (tag_full c.fields.rest.now (c.in_err-tag.ensures.reads ∙ ap (λ e. Err e) h))))

pub returns-in_err-tag-clause-full : goal.returns-in_err-tag-clause-full
returns-in_err-tag-clause-full c =
    let p = err_from_is_err_and c.from_residual.result c.from_residual.ensures.1 in
    rw (p.1, p.2) (λ h. absurd (tag_full c.fields.rest.now (c.in_err-tag.ensures.reads ∙ ap (λ e. Err e) h)))

pub fields-smaller : goal.fields-smaller
fields-smaller c = shorter by_payloads c.fields.invariant c.in_ok-tag.tag.number c.in_ok-tag.tag.wire_type c.decode.new.buf.now c.in_ok-tag.ensures.reads _ _ _ c.in_ok-merge_field.ensures.merged

pub fields-preserved : goal.fields-preserved
fields-preserved c = goes_on by_payloads c.fields.invariant c.in_ok-tag.tag.number c.in_ok-tag.tag.wire_type c.decode.new.buf.now c.in_ok-tag.ensures.reads _ _ _ c.in_ok-merge_field.ensures.merged

pub returns-in_err-merge_field-clause-merged : goal.returns-in_err-merge_field-clause-merged
returns-in_err-merge_field-clause-merged c =
    let p = err_from_is_err_and c.from_residual-in_err-merge_field.result c.from_residual-in_err-merge_field.ensures.1 in
    rw (p.1, p.2) (refused_next by_payloads c.fields.invariant c.in_ok-tag.tag.number c.in_ok-tag.tag.wire_type c.decode.new.buf.now c.in_ok-tag.ensures.reads c.in_err-merge_field.field-0.0 c.merge_field.new.records.records c.merge_field.new.buf.now _ c.in_err-merge_field.ensures.merged)

pub returns-in_err-merge_field-clause-stops : goal.returns-in_err-merge_field-clause-stops
returns-in_err-merge_field-clause-stops c =
    let p = err_from_is_err_and c.from_residual-in_err-merge_field.result c.from_residual-in_err-merge_field.ensures.1 in
    let t = c.in_err-merge_field.ensures.takes in
    rw (p.1, p.2) (stops_at c.fields.invariant _ (omega (arith, c.remaining.ensures, c.fields-test.true)) c.in_ok-tag.tag.number c.in_ok-tag.tag.wire_type c.decode.new.buf.now c.in_ok-tag.ensures.reads _ _ t.0 t.1 t.2 c.in_err-merge_field.ensures.full)

pub returns-in_err-merge_field-clause-full : goal.returns-in_err-merge_field-clause-full
returns-in_err-merge_field-clause-full c =
    let p = err_from_is_err_and c.from_residual-in_err-merge_field.result c.from_residual-in_err-merge_field.ensures.1 in
    rw (p.1, p.2) (λ h. reached by_payloads c.fields.invariant c.in_ok-tag.tag.number c.in_ok-tag.tag.wire_type c.decode.new.buf.now c.in_ok-tag.ensures.reads (c.in_err-merge_field.ensures.full h))

pub returns-clause-merged : goal.returns-clause-merged
returns-clause-merged c = ended by_payloads c.fields.invariant (omega (arith, c.remaining.ensures, c.fields-test.false))

pub returns-in_err-tag-clause-partly : goal.returns-in_err-tag-clause-partly
returns-in_err-tag-clause-partly c =
    let p = err_from_is_err_and c.from_residual.result c.from_residual.ensures.1 in
    rw (p.1, p.2) (partly_merged_untagged by_payloads c.fields.invariant IsSetRefused c.in_err-tag.field-0.0 (omega (arith, c.remaining.ensures, c.fields-test.true)) c.in_err-tag.ensures.reads)

pub returns-in_err-merge_field-clause-partly : goal.returns-in_err-merge_field-clause-partly
returns-in_err-merge_field-clause-partly c =
    let p = err_from_is_err_and c.from_residual-in_err-merge_field.result c.from_residual-in_err-merge_field.ensures.1 in
    rw (p.1, p.2) (partly_merged_refused by_payloads c.fields.invariant c.in_ok-tag.tag.number c.in_ok-tag.tag.wire_type c.decode.new.buf.now c.in_ok-tag.ensures.reads IsSetRefused c.in_err-merge_field.field-0.0 c.merge_field.new.records.records c.merge_field.new.buf.now _ c.in_err-merge_field.ensures.merged
    c.in_err-merge_field.ensures.refused c.in_err-merge_field.ensures.full)

pub returns-clause-tail : goal.returns-clause-tail
returns-clause-tail c = tail by_payloads c.fields.invariant
