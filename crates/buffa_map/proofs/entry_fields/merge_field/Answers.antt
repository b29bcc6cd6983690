use Rattle.std.proofs.Common.{◌≡◌, ◌∙◌, sym, ap}
use Rattle.buffa_map.specs.declared.codec.MapValueDecodeStatus.{MapValueDecodeStatus}
use Rattle.std.proofs.lemmas.Result.{err_from_is_err_and}
use Rattle.buffa_map.specs.Codec.{is_known}
use Rattle.buffa_map.proofs.FieldsLemmas.{bad_key, bad_other, bad_value, good_key, good_value, no_tag, not_known, wrong_key, wrong_value}
use Rattle.buffa_map.proofs.entry_fields.merge_field.Goals as goal
use Rattle.buffa_map.proofs.entry_fields.merge_field.Goals.{in-Known, in_default}

pub returns-in_err-tag-clause-err : goal.returns-in_err-tag-clause-err
returns-in_err-tag-clause-err g c =
    let p = err_from_is_err_and c.from_residual.result c.from_residual.ensures.1 in
    rw (p.1, p.2) (no_tag _ _ _ _ _ _ c.in_err-tag.field-0.0 c.in_err-tag.ensures.reads)

pub returns-in_err-check_wire_type-clause-err : goal.returns-in_err-check_wire_type-clause-err
returns-in_err-check_wire_type-clause-err g c =
    let p = err_from_is_err_and c.from_residual-in_err-check_wire_type.result c.from_residual-in_err-check_wire_type.ensures.1 in
    let one = sym c.field_number.ensures ∙ c.if-field_number-eq1.true in
    let wire = c.WIRE_TYPE.ensures ∙ sym g.met.KC.MapValueDecode.wire in
    rw (p.1, p.2) (wrong_key _ _ _ _ _ _ _ _ _ c.in_ok-tag.ensures.reads one c.WIRE_TYPE.result wire c.in_err-check_wire_type.field-0.0 c.in_err-check_wire_type.ensures)

pub returns-in_err-merge-clause-err : goal.returns-in_err-merge-clause-err
returns-in_err-merge-clause-err g c =
    let p = err_from_is_err_and c.from_residual-in_err-merge.result c.from_residual-in_err-merge.ensures.1 in
    let one = sym c.field_number.ensures ∙ c.if-field_number-eq1.true in
    let wire = c.WIRE_TYPE.ensures ∙ sym g.met.KC.MapValueDecode.wire in
    rw (p.1, p.2) (bad_key _ _ _ _ _ _ _ _ _ c.in_ok-tag.ensures.reads one c.WIRE_TYPE.result wire MapValueDecodeStatus _ c.in_err-merge.field-0.0 c.in_ok-check_wire_type.ensures
    (λ plain. g.met.KC.MapValueDecode.free plain c.args.ctx.depth) (λ ne. c.in_err-merge.ensures.fault ne) c.in_err-merge.ensures.full c.in_err-merge.ensures.spends)

pub returns-in_err-check_wire_type-2-clause-err : goal.returns-in_err-check_wire_type-2-clause-err
returns-in_err-check_wire_type-2-clause-err g c =
    let p = err_from_is_err_and c.from_residual-in_err-check_wire_type-2.result c.from_residual-in_err-check_wire_type-2.ensures.1 in
    let wire = c.WIRE_TYPE-then-field_number-eq2.ensures ∙ sym g.met.W.MergeValue.wire in
    rw (p.1, p.2) (wrong_value _ _ _ _ _ _ _ _ _ c.in_ok-tag.ensures.reads (λ e. c.if-field_number-eq1.false (c.field_number.ensures ∙ e)) (sym c.field_number-else-field_number-eq1.ensures ∙ c.if-field_number-eq2.true)
    c.WIRE_TYPE-then-field_number-eq2.result wire c.in_err-check_wire_type-2.field-0.0 c.in_err-check_wire_type-2.ensures)

pub returns-in_err-status-clause-err : goal.returns-in_err-status-clause-err
returns-in_err-status-clause-err g c =
    let p = err_from_is_err_and c.from_residual-in_err-status.result c.from_residual-in_err-status.ensures.1 in
    let wire = c.WIRE_TYPE-then-field_number-eq2.ensures ∙ sym g.met.W.MergeValue.wire in
    rw (p.1, p.2) (bad_value _ _ _ _ _ _ _ _ _ c.in_ok-tag.ensures.reads (λ e. c.if-field_number-eq1.false (c.field_number.ensures ∙ e)) (sym c.field_number-else-field_number-eq1.ensures ∙ c.if-field_number-eq2.true)
    c.WIRE_TYPE-then-field_number-eq2.result wire c.in_ok-check_wire_type-2.ensures (λ plain. g.met.W.MergeValue.free plain c.args.ctx.depth) MapValueDecodeStatus _ c.in_err-status.field-0.0 (λ ne. c.in_err-status.ensures.fault ne) c.in_err-status.ensures.full c.in_err-status.ensures.spends)

pub returns-in_err-skip_field_depth-clause-err : goal.returns-in_err-skip_field_depth-clause-err
returns-in_err-skip_field_depth-clause-err g c =
    let p = err_from_is_err_and c.from_residual-in_err-skip_field_depth.result c.from_residual-in_err-skip_field_depth.ensures.1 in
    rw (p.1, p.2) (bad_other _ _ _ _ _ _ _ _ _ c.in_ok-tag.ensures.reads c.in_err-skip_field_depth.field-0.0 (λ e. c.if-field_number-eq1.false (c.field_number.ensures ∙ e))
    (λ e. c.if-field_number-eq2.false (c.field_number-else-field_number-eq1.ensures ∙ e)) c.in_err-skip_field_depth.ensures.reads)

pub returns-in_ok-merge-clause-ok : goal.returns-in_ok-merge-clause-ok
returns-in_ok-merge-clause-ok g c =
    let one = sym c.field_number.ensures ∙ c.if-field_number-eq1.true in
    let wire = c.WIRE_TYPE.ensures ∙ sym g.met.KC.MapValueDecode.wire in
    good_key _ _ _ _ _ _ _ _ _ c.in_ok-tag.ensures.reads one c.WIRE_TYPE.result wire c.in_ok-merge.field-0 _ _ _ _ c.in_ok-check_wire_type.ensures
    (λ plain. g.met.KC.MapValueDecode.free plain c.args.ctx.depth) c.in_ok-merge.ensures.ok c.in_ok-merge.ensures.spends

pub returns-after-status-clause-ok : goal.returns-after-status-clause-ok
returns-after-status-clause-ok g c =
    let wire = c.WIRE_TYPE-then-field_number-eq2.ensures ∙ sym g.met.W.MergeValue.wire in
    let known : is_known c.in_ok-status.status ≡ c.match-status.parts =
    elim c.match-status.branch [ in-Known w ↦ ap is_known w.in-Known.is ∙ sym w.parts-is | in_default w ↦ not_known c.in_ok-status.status w.in_default.not-Known ∙ sym w.parts-is ] in
    good_value _ _ _ _ _ _ _ _ _ c.in_ok-tag.ensures.reads (λ e. c.if-field_number-eq1.false (c.field_number.ensures ∙ e)) (sym c.field_number-else-field_number-eq1.ensures ∙ c.if-field_number-eq2.true)
    c.WIRE_TYPE-then-field_number-eq2.result wire c.in_ok-check_wire_type-2.ensures (λ plain. g.met.W.MergeValue.free plain c.args.ctx.depth) c.in_ok-status.status _ _ _ _ _ c.in_ok-status.ensures.ok known c.in_ok-status.ensures.spends

-- ---- what is past the buffer stays
pub returns-in_err-tag-clause-kept : goal.returns-in_err-tag-clause-kept
returns-in_err-tag-clause-kept g c = c.in_err-tag.ensures.kept

pub returns-in_err-check_wire_type-clause-kept : goal.returns-in_err-check_wire_type-clause-kept
returns-in_err-check_wire_type-clause-kept g c = c.in_ok-tag.ensures.kept

pub returns-in_err-check_wire_type-2-clause-kept : goal.returns-in_err-check_wire_type-2-clause-kept
returns-in_err-check_wire_type-2-clause-kept g c = c.in_ok-tag.ensures.kept

pub returns-in_err-merge-clause-kept : goal.returns-in_err-merge-clause-kept
returns-in_err-merge-clause-kept g c = c.in_err-merge.ensures.kept ∙ c.in_ok-tag.ensures.kept

pub returns-in_ok-merge-clause-kept : goal.returns-in_ok-merge-clause-kept
returns-in_ok-merge-clause-kept g c = c.in_ok-merge.ensures.kept ∙ c.in_ok-tag.ensures.kept

pub returns-in_err-status-clause-kept : goal.returns-in_err-status-clause-kept
returns-in_err-status-clause-kept g c = c.in_err-status.ensures.kept ∙ c.in_ok-tag.ensures.kept

pub returns-after-status-clause-kept : goal.returns-after-status-clause-kept
returns-after-status-clause-kept g c = c.in_ok-status.ensures.kept ∙ c.in_ok-tag.ensures.kept

pub returns-in_err-skip_field_depth-clause-kept : goal.returns-in_err-skip_field_depth-clause-kept
returns-in_err-skip_field_depth-clause-kept g c = c.in_err-skip_field_depth.ensures.kept ∙ c.in_ok-tag.ensures.kept

pub returns-in_ok-skip_field_depth-clause-kept : goal.returns-in_ok-skip_field_depth-clause-kept
returns-in_ok-skip_field_depth-clause-kept g c = c.in_ok-skip_field_depth.ensures.kept ∙ c.in_ok-tag.ensures.kept
