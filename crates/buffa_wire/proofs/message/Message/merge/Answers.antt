use Rattle.std.proofs.Common.{◌∙◌, Err, arith, ap}
use Rattle.std.proofs.lemmas.Result.{err_from_is_err_and}
use Rattle.buffa_bytes.proofs.FullLemmas.{tag_full}
use Rattle.buffa_wire.proofs.ByPayloadLemmas.{by_payload}
use Rattle.buffa_wire.proofs.MergeLoopLemmas.{begins, ended, goes_on, no_tag, reached, refused_next, shorter, partly_merged_refused, partly_merged_untagged, tail}
use Rattle.buffa_wire.proofs.message.Message.merge.Goals as goal

pub fields-init : goal.fields-init
fields-init g c =
    begins (by_payload g.Self.MessageSpec.stays g.Self.MessageSpec.merged_is g.Self.MessageSpec.cost_is) c.args.ctx.depth (g.Self.Blank.meaning c.args.self.now) c.args.buf.now.now c.args.ctx.budget.now

pub returns-in_err-tag-clause-merged : goal.returns-in_err-tag-clause-merged
returns-in_err-tag-clause-merged g c =
    let by = by_payload g.Self.MessageSpec.stays g.Self.MessageSpec.merged_is g.Self.MessageSpec.cost_is in
    let p = err_from_is_err_and c.from_residual.result c.from_residual.ensures.1 in
    rw (p.1, p.2) (no_tag by c.fields.invariant c.in_err-tag.field-0.0 (omega (arith, c.remaining.ensures, c.fields-test.true)) c.in_err-tag.ensures.reads)

pub fields-smaller : goal.fields-smaller
fields-smaller g c =
    let by = by_payload g.Self.MessageSpec.stays g.Self.MessageSpec.merged_is g.Self.MessageSpec.cost_is in
    shorter by c.fields.invariant c.in_ok-tag.tag.number c.in_ok-tag.tag.wire_type c.decode.new.buf.now c.in_ok-tag.ensures.reads (g.Self.Blank.meaning c.merge_field.new.self) c.merge_field.new.buf.now _ c.in_ok-merge_field.ensures.merged

pub fields-preserved : goal.fields-preserved
fields-preserved g c =
    let by = by_payload g.Self.MessageSpec.stays g.Self.MessageSpec.merged_is g.Self.MessageSpec.cost_is in
    goes_on by c.fields.invariant c.in_ok-tag.tag.number c.in_ok-tag.tag.wire_type c.decode.new.buf.now c.in_ok-tag.ensures.reads (g.Self.Blank.meaning c.merge_field.new.self) c.merge_field.new.buf.now _ c.in_ok-merge_field.ensures.merged

pub returns-in_err-merge_field-clause-merged : goal.returns-in_err-merge_field-clause-merged
returns-in_err-merge_field-clause-merged g c =
    let by = by_payload g.Self.MessageSpec.stays g.Self.MessageSpec.merged_is g.Self.MessageSpec.cost_is in
    let p = err_from_is_err_and c.from_residual-in_err-merge_field.result c.from_residual-in_err-merge_field.ensures.1 in
    rw (p.1, p.2) (refused_next by c.fields.invariant c.in_ok-tag.tag.number c.in_ok-tag.tag.wire_type c.decode.new.buf.now c.in_ok-tag.ensures.reads c.in_err-merge_field.field-0.0 (g.Self.Blank.meaning c.merge_field.new.self) c.merge_field.new.buf.now
    c.merge_field.new.ctx.1.0 c.in_err-merge_field.ensures.merged)

pub returns-in_err-tag-clause-full : goal.returns-in_err-tag-clause-full
returns-in_err-tag-clause-full g c =
    let p = err_from_is_err_and c.from_residual.result c.from_residual.ensures.1 in
    let rest = c.fields.rest.now in
    rw (p.1, p.2) (λ h. absurd (tag_full rest (c.in_err-tag.ensures.reads ∙ ap (λ e. Err e) h)))

pub returns-in_err-merge_field-clause-full : goal.returns-in_err-merge_field-clause-full
returns-in_err-merge_field-clause-full g c =
    let by = by_payload g.Self.MessageSpec.stays g.Self.MessageSpec.merged_is g.Self.MessageSpec.cost_is in
    let p = err_from_is_err_and c.from_residual-in_err-merge_field.result c.from_residual-in_err-merge_field.ensures.1 in
    rw (p.1, p.2) (λ h. reached by c.fields.invariant c.in_ok-tag.tag.number c.in_ok-tag.tag.wire_type c.decode.new.buf.now c.in_ok-tag.ensures.reads (c.in_err-merge_field.ensures.full h))

pub returns-clause-merged : goal.returns-clause-merged
returns-clause-merged g c =
    ended (by_payload g.Self.MessageSpec.stays g.Self.MessageSpec.merged_is g.Self.MessageSpec.cost_is) c.fields.invariant (omega (arith, c.remaining.ensures, c.fields-test.false))

pub returns-in_err-tag-clause-partly : goal.returns-in_err-tag-clause-partly
returns-in_err-tag-clause-partly g c =
    let by = by_payload g.Self.MessageSpec.stays g.Self.MessageSpec.merged_is g.Self.MessageSpec.cost_is in
    let p = err_from_is_err_and c.from_residual.result c.from_residual.ensures.1 in
    rw (p.1, p.2) (partly_merged_untagged by c.fields.invariant g.Self.MessageSpec.Refused c.in_err-tag.field-0.0 (omega (arith, c.remaining.ensures, c.fields-test.true)) c.in_err-tag.ensures.reads)

pub returns-in_err-merge_field-clause-partly : goal.returns-in_err-merge_field-clause-partly
returns-in_err-merge_field-clause-partly g c =
    let by = by_payload g.Self.MessageSpec.stays g.Self.MessageSpec.merged_is g.Self.MessageSpec.cost_is in
    let p = err_from_is_err_and c.from_residual-in_err-merge_field.result c.from_residual-in_err-merge_field.ensures.1 in
    rw (p.1, p.2) (partly_merged_refused by c.fields.invariant c.in_ok-tag.tag.number c.in_ok-tag.tag.wire_type c.decode.new.buf.now c.in_ok-tag.ensures.reads g.Self.MessageSpec.Refused c.in_err-merge_field.field-0.0 (g.Self.Blank.meaning c.merge_field.new.self)
    c.merge_field.new.buf.now c.merge_field.new.ctx.1.0 c.in_err-merge_field.ensures.merged c.in_err-merge_field.ensures.refused c.in_err-merge_field.ensures.full)

pub returns-clause-tail : goal.returns-clause-tail
returns-clause-tail g c =
    tail (by_payload g.Self.MessageSpec.stays g.Self.MessageSpec.merged_is g.Self.MessageSpec.cost_is) c.fields.invariant
