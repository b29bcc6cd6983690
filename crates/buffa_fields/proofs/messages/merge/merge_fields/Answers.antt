use Rattle.std.proofs.Common.{Ok, Err, arith}
use Rattle.std.proofs.lemmas.Result.{err_from_is_err_and}
use Rattle.buffa_bytes.proofs.FullLemmas.{tag_no_full}
use Rattle.buffa_wire.proofs.MergeLoopLemmas.{begins, ended, goes_on, no_tag, reached, refused_next, shorter, partly_merged_refused, partly_merged_untagged, tail}
use Rattle.buffa_fields.proofs.RefusedMessageLemmas.{asked, by_members}
use Rattle.buffa_fields.specs.facts.SchemaFacts.{full_of, merges, refused_of}
use Rattle.buffa_fields.specs.RefusedMessage.{IsMemberRefused}
use Rattle.buffa_fields.proofs.messages.merge.merge_fields.Goals as goal

pub fields-init : goal.fields-init
fields-init g c =
    let l = g.M.MessageFields.schema in
    begins (by_members l) c.args.ctx.depth (l.meaning c.args.message.now) c.args.buf.now.now c.args.ctx.budget.now

pub fields-smaller : goal.fields-smaller
fields-smaller g c =
    let l = g.M.MessageFields.schema in
    shorter (by_members l) c.fields.invariant c.in_ok-tag.tag.number c.in_ok-tag.tag.wire_type c.decode.new.buf.now c.in_ok-tag.ensures.reads (l.meaning c.take.new.self) c.take.new.buf.now _
    (merges l c.args.ctx.depth c.fields.message c.take.new.self c.in_ok-tag.tag.number c.in_ok-tag.tag.wire_type c.decode.new.buf.now c.take.new.buf.now c.fields.budget _ (Ok tt) c.in_ok-take.ensures)

pub fields-preserved : goal.fields-preserved
fields-preserved g c =
    let l = g.M.MessageFields.schema in
    goes_on (by_members l) c.fields.invariant c.in_ok-tag.tag.number c.in_ok-tag.tag.wire_type c.decode.new.buf.now c.in_ok-tag.ensures.reads (l.meaning c.take.new.self) c.take.new.buf.now _
    (merges l c.args.ctx.depth c.fields.message c.take.new.self c.in_ok-tag.tag.number c.in_ok-tag.tag.wire_type c.decode.new.buf.now c.take.new.buf.now c.fields.budget _ (Ok tt) c.in_ok-take.ensures)

pub returns-in_err-tag-clause-partly : goal.returns-in_err-tag-clause-partly
returns-in_err-tag-clause-partly g c =
    let l = g.M.MessageFields.schema in
    let p = err_from_is_err_and c.from_residual.result c.from_residual.ensures.1 in
    rw (p.1, p.2) (partly_merged_untagged (by_members l) c.fields.invariant (IsMemberRefused l) c.in_err-tag.field-0.0 (omega (arith, c.remaining.ensures, c.fields-test.true)) c.in_err-tag.ensures.reads)

pub returns-in_err-tag-clause-full : goal.returns-in_err-tag-clause-full
returns-in_err-tag-clause-full g c =
    let p = err_from_is_err_and c.from_residual.result c.from_residual.ensures.1 in
    rw (p.1, p.2) (tag_no_full c.fields.rest.now c.in_err-tag.field-0.0 c.in_err-tag.ensures.reads)

pub returns-in_err-take-clause-partly : goal.returns-in_err-take-clause-partly
returns-in_err-take-clause-partly g c =
    let l = g.M.MessageFields.schema in
    let p = err_from_is_err_and c.from_residual-in_err-take.result c.from_residual-in_err-take.ensures.1 in
    rw (p.1, p.2) (partly_merged_refused (by_members l) c.fields.invariant c.in_ok-tag.tag.number c.in_ok-tag.tag.wire_type c.decode.new.buf.now c.in_ok-tag.ensures.reads (IsMemberRefused l) c.in_err-take.field-0.0 (l.meaning c.take.new.self) c.take.new.buf.now _
    (merges l c.args.ctx.depth c.fields.message c.take.new.self c.in_ok-tag.tag.number c.in_ok-tag.tag.wire_type c.decode.new.buf.now c.take.new.buf.now c.fields.budget _ (Err c.in_err-take.field-0.0) c.in_err-take.ensures)
    (refused_of l c.args.ctx.depth c.fields.message c.take.new.self c.in_ok-tag.tag.number c.in_ok-tag.tag.wire_type c.decode.new.buf.now c.take.new.buf.now c.fields.budget _ (Err c.in_err-take.field-0.0) c.in_err-take.ensures)
    (full_of l c.args.ctx.depth c.fields.message c.take.new.self c.in_ok-tag.tag.number c.in_ok-tag.tag.wire_type c.decode.new.buf.now c.take.new.buf.now c.fields.budget _ (Err c.in_err-take.field-0.0) c.in_err-take.ensures))

pub returns-in_err-take-clause-full : goal.returns-in_err-take-clause-full
returns-in_err-take-clause-full g c =
    let p = err_from_is_err_and c.from_residual-in_err-take.result c.from_residual-in_err-take.ensures.1 in
    rw (p.1, p.2) (asked g.M.MessageFields.schema c.fields.message c.fields.invariant c.take.new.self c.in_ok-tag.tag.number c.in_ok-tag.tag.wire_type c.decode.new.buf.now c.in_ok-tag.ensures.reads c.take.new.buf.now _ c.in_err-take.field-0.0 c.in_err-take.ensures)

pub returns-in_err-tag-clause-begun : goal.returns-in_err-tag-clause-begun
returns-in_err-tag-clause-begun g c =
    let p = err_from_is_err_and c.from_residual.result c.from_residual.ensures.1 in
    rw (p.1, p.2) (tag_no_full c.fields.rest.now c.in_err-tag.field-0.0 c.in_err-tag.ensures.reads)

pub returns-in_err-take-clause-begun : goal.returns-in_err-take-clause-begun
returns-in_err-take-clause-begun g c =
    let l = g.M.MessageFields.schema in
    let p = err_from_is_err_and c.from_residual-in_err-take.result c.from_residual-in_err-take.ensures.1 in
    rw (p.1, p.2) (λ h. reached (by_members l) c.fields.invariant c.in_ok-tag.tag.number c.in_ok-tag.tag.wire_type c.decode.new.buf.now c.in_ok-tag.ensures.reads
    (full_of l c.args.ctx.depth c.fields.message c.take.new.self c.in_ok-tag.tag.number c.in_ok-tag.tag.wire_type c.decode.new.buf.now c.take.new.buf.now c.fields.budget _ (Err c.in_err-take.field-0.0) c.in_err-take.ensures h))

pub returns-in_err-tag-clause-merged : goal.returns-in_err-tag-clause-merged
returns-in_err-tag-clause-merged g c =
    let p = err_from_is_err_and c.from_residual.result c.from_residual.ensures.1 in
    rw (p.1, p.2) (no_tag (by_members g.M.MessageFields.schema) c.fields.invariant c.in_err-tag.field-0.0 (omega (arith, c.remaining.ensures, c.fields-test.true)) c.in_err-tag.ensures.reads)

pub returns-in_err-take-clause-merged : goal.returns-in_err-take-clause-merged
returns-in_err-take-clause-merged g c =
    let l = g.M.MessageFields.schema in
    let p = err_from_is_err_and c.from_residual-in_err-take.result c.from_residual-in_err-take.ensures.1 in
    rw (p.1, p.2) (refused_next (by_members l) c.fields.invariant c.in_ok-tag.tag.number c.in_ok-tag.tag.wire_type c.decode.new.buf.now c.in_ok-tag.ensures.reads c.in_err-take.field-0.0 (l.meaning c.take.new.self) c.take.new.buf.now _
    (merges l c.args.ctx.depth c.fields.message c.take.new.self c.in_ok-tag.tag.number c.in_ok-tag.tag.wire_type c.decode.new.buf.now c.take.new.buf.now c.fields.budget _ (Err c.in_err-take.field-0.0) c.in_err-take.ensures))

pub returns-clause-merged : goal.returns-clause-merged
returns-clause-merged g c = ended (by_members g.M.MessageFields.schema) c.fields.invariant (omega (arith, c.remaining.ensures, c.fields-test.false))

pub returns-clause-tail : goal.returns-clause-tail
returns-clause-tail g c = tail (by_members g.M.MessageFields.schema) c.fields.invariant
