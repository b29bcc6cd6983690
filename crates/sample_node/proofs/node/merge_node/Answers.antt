use Rattle.std.proofs.Common.{Err, ◌∙◌, arith, ap}
use Rattle.std.proofs.lemmas.Result.{err_from_is_err_and}
use Rattle.buffa_bytes.proofs.FullLemmas.{tag_full}
use Rattle.buffa_wire.proofs.MergeLoopLemmas.{begins, ended, goes_on, no_tag, reached, refused_next, shorter, partly_merged_refused, partly_merged_untagged}
use Rattle.sample_node.proofs.NodeReadLemmas.{node_by_payloads}
use Rattle.sample_node.proofs.StopLemmas.{stops_at, stops_untagged}
use Rattle.sample_node.specs.Refused.{IsNodeRefused}
use Rattle.sample_node.proofs.node.merge_node.Goals as goal

pub returns-in_err-tag-clause-merged : goal.returns-in_err-tag-clause-merged
returns-in_err-tag-clause-merged c =
    let p = err_from_is_err_and c.from_residual.result c.from_residual.ensures.1 in
    rw (p.1, p.2) (no_tag node_by_payloads c.loop-rest.invariant c.in_err-tag.field-0.0 (omega (arith, c.remaining.ensures, c.loop-rest-test.true)) c.in_err-tag.ensures.reads)

pub returns-in_err-tag-clause-full : goal.returns-in_err-tag-clause-full
returns-in_err-tag-clause-full c =
    let p = err_from_is_err_and c.from_residual.result c.from_residual.ensures.1 in
    rw (p.1, p.2) (λ h. absurd (tag_full c.loop-rest.rest.now (c.in_err-tag.ensures.reads ∙ ap (λ e. Err e) h)))

pub returns-in_err-tag-clause-stops : goal.returns-in_err-tag-clause-stops
returns-in_err-tag-clause-stops c =
    let p = err_from_is_err_and c.from_residual.result c.from_residual.ensures.1 in
    rw (p.1, p.2) (stops_untagged c.loop-rest.invariant c.in_err-tag.field-0.0 c.in_err-tag.ensures.reads)

pub returns-in_err-merge_node_field-clause-full : goal.returns-in_err-merge_node_field-clause-full
returns-in_err-merge_node_field-clause-full c =
    let p = err_from_is_err_and c.from_residual-in_err-merge_node_field.result c.from_residual-in_err-merge_node_field.ensures.1 in
    rw (p.1, p.2) (λ h. reached node_by_payloads c.loop-rest.invariant c.in_ok-tag.tag.number c.in_ok-tag.tag.wire_type c.decode.new.buf.now c.in_ok-tag.ensures.reads (c.in_err-merge_node_field.ensures.full h))

pub returns-in_err-merge_node_field-clause-stops : goal.returns-in_err-merge_node_field-clause-stops
returns-in_err-merge_node_field-clause-stops c =
    let p = err_from_is_err_and c.from_residual-in_err-merge_node_field.result c.from_residual-in_err-merge_node_field.ensures.1 in
    rw (p.1, p.2) (stops_at c.loop-rest.invariant c.merge_node_field.new.node c.in_ok-tag.tag.number c.in_ok-tag.tag.wire_type c.decode.new.buf.now c.in_ok-tag.ensures.reads c.merge_node_field.new.buf.now c.merge_node_field.new.budget c.in_err-merge_node_field.field-0.0 c.in_err-merge_node_field.ensures.refused.stays c.in_err-merge_node_field.ensures.merged c.in_err-merge_node_field.ensures.full)

pub returns-in_err-tag-clause-partly : goal.returns-in_err-tag-clause-partly
returns-in_err-tag-clause-partly c =
    let p = err_from_is_err_and c.from_residual.result c.from_residual.ensures.1 in
    rw (p.1, p.2) (partly_merged_untagged node_by_payloads c.loop-rest.invariant IsNodeRefused c.in_err-tag.field-0.0 (omega (arith, c.remaining.ensures, c.loop-rest-test.true)) c.in_err-tag.ensures.reads)

pub returns-in_err-merge_node_field-clause-partly : goal.returns-in_err-merge_node_field-clause-partly
returns-in_err-merge_node_field-clause-partly c =
    let p = err_from_is_err_and c.from_residual-in_err-merge_node_field.result c.from_residual-in_err-merge_node_field.ensures.1 in
    rw (p.1, p.2) (partly_merged_refused node_by_payloads c.loop-rest.invariant c.in_ok-tag.tag.number c.in_ok-tag.tag.wire_type c.decode.new.buf.now c.in_ok-tag.ensures.reads IsNodeRefused c.in_err-merge_node_field.field-0.0 c.merge_node_field.new.node c.merge_node_field.new.buf.now _
    c.in_err-merge_node_field.ensures.merged c.in_err-merge_node_field.ensures.refused c.in_err-merge_node_field.ensures.full)

pub loop-rest-init : goal.loop-rest-init
loop-rest-init c = begins node_by_payloads c.args.depth c.args.node.now c.args.bytes.now c.args.budget.now

pub loop-rest-smaller : goal.loop-rest-smaller
loop-rest-smaller c = shorter node_by_payloads c.loop-rest.invariant c.in_ok-tag.tag.number c.in_ok-tag.tag.wire_type c.decode.new.buf.now c.in_ok-tag.ensures.reads _ _ _ c.in_ok-merge_node_field.ensures.merged

pub loop-rest-preserved : goal.loop-rest-preserved
loop-rest-preserved c = goes_on node_by_payloads c.loop-rest.invariant c.in_ok-tag.tag.number c.in_ok-tag.tag.wire_type c.decode.new.buf.now c.in_ok-tag.ensures.reads _ _ _ c.in_ok-merge_node_field.ensures.merged

pub returns-in_err-merge_node_field-clause-merged : goal.returns-in_err-merge_node_field-clause-merged
returns-in_err-merge_node_field-clause-merged c =
    let p = err_from_is_err_and c.from_residual-in_err-merge_node_field.result c.from_residual-in_err-merge_node_field.ensures.1 in
    rw (p.1, p.2) (refused_next node_by_payloads c.loop-rest.invariant c.in_ok-tag.tag.number c.in_ok-tag.tag.wire_type c.decode.new.buf.now c.in_ok-tag.ensures.reads c.in_err-merge_node_field.field-0.0 c.merge_node_field.new.node c.merge_node_field.new.buf.now _ c.in_err-merge_node_field.ensures.merged)

pub returns-clause-merged : goal.returns-clause-merged
returns-clause-merged c = ended node_by_payloads c.loop-rest.invariant (omega (arith, c.remaining.ensures, c.loop-rest-test.false))
