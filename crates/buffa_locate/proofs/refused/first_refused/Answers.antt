use Rattle.std.proofs.Common.{arith, refl}
use Rattle.std.proofs.lemmas.Result.{err_from_is_err_and}
use Rattle.buffa_wire.proofs.ByPayloadLemmas.{by_payload}
use Rattle.buffa_wire.proofs.MergeLoopLemmas.{begins, goes_on, reached, shorter}
use Rattle.buffa_locate.proofs.PlaceLemmas.{all_read, same_left, stops_told, stops_untagged}
use Rattle.buffa_locate.proofs.refused.first_refused.Goals as goal

pub fields-init : goal.fields-init
fields-init g c =
    let by = by_payload g.M.MessageSpec.stays g.M.MessageSpec.merged_is g.M.MessageSpec.cost_is in
    rw c.blank-message.ensures (begins by c.args.depth g.M.Blank.blank_is c.args.bytes.now c.args.budget)

pub fields-smaller : goal.fields-smaller
fields-smaller g c =
    let by = by_payload g.M.MessageSpec.stays g.M.MessageSpec.merged_is g.M.MessageSpec.cost_is in
    shorter by c.fields.invariant _ _ _ c.in-Ok.ensures.reads _ _ _ c.in-Ok-merge_field.ensures.merged

pub fields-preserved : goal.fields-preserved
fields-preserved g c =
    let by = by_payload g.M.MessageSpec.stays g.M.MessageSpec.merged_is g.M.MessageSpec.cost_is in
    goes_on by c.fields.invariant _ _ _ c.in-Ok.ensures.reads _ _ _ c.in-Ok-merge_field.ensures.merged

pub returns-in-Err-clause-told : goal.returns-in-Err-clause-told
returns-in-Err-clause-told g c =
    let by = by_payload g.M.MessageSpec.stays g.M.MessageSpec.merged_is g.M.MessageSpec.cost_is in
    stops_untagged by c.fields.invariant _ refl (same_left _ _ c.fields.left c.unknown_left.ensures c.memory_left.ensures) refl refl (omega (arith, c.remaining.ensures, c.fields-test.true)) c.in-Err.ensures.reads

pub returns-clause-told : goal.returns-clause-told
returns-clause-told g c =
    let by = by_payload g.M.MessageSpec.stays g.M.MessageSpec.merged_is g.M.MessageSpec.cost_is in
    all_read by c.fields.invariant (omega (arith, c.remaining.ensures, c.fields-test.false))

pub returns-in_err-found-in-Err-merge_field-clause-full : goal.returns-in_err-found-in-Err-merge_field-clause-full
returns-in_err-found-in-Err-merge_field-clause-full g c =
    let by = by_payload g.M.MessageSpec.stays g.M.MessageSpec.merged_is g.M.MessageSpec.cost_is in
    let p = err_from_is_err_and c.from_residual.result c.from_residual.ensures.1 in
    rw p.1 (reached by c.fields.invariant _ _ _ c.in-Ok.ensures.reads (c.in-Err-merge_field.ensures.full c.in_err-found-in-Err-merge_field.ensures.full))

pub returns-in-Err-merge_field-clause-told : goal.returns-in-Err-merge_field-clause-told
returns-in-Err-merge_field-clause-told g c =
    let by = by_payload g.M.MessageSpec.stays g.M.MessageSpec.merged_is g.M.MessageSpec.cost_is in
    stops_told by c.fields.invariant _ refl (same_left _ _ c.fields.left c.unknown_left.ensures c.memory_left.ensures) _ c.in-Ok.tag _ refl c.in-Ok.ensures.reads refl (g.M.Blank.meaning c.merge_field.new.self) c.merge_field.new.buf.now c.merge_field.new.ctx.1.0
    c.in-Err-merge_field.ensures.merged c.in-Err-merge_field.ensures.refused c.in_ok-found-in-Err-merge_field.ensures.same
