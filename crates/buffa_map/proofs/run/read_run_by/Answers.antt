use Rattle.std.proofs.Common.{arith, ◌<◌, length, refl, sym, ◌∙◌}
use Rattle.std.proofs.lemmas.Result.{err_from_is_err_and}
use Rattle.buffa_map.proofs.StepLemmas.{all_reached, less, none_reached, one_more, stop_entry, stop_mismatch, stop_other, stop_tag}
use Rattle.buffa_map.proofs.run.read_run_by.Goals as goal

pub records-init : goal.records-init
records-init g c = (none_reached _ _ _, refl, omega arith)

pub returns-in_err-tag-clause-err : goal.returns-in_err-tag-clause-err
returns-in_err-tag-clause-err g c =
    let p = err_from_is_err_and c.from_residual.result c.from_residual.ensures.1 in
    let more : 0 < length (g.B.Buf.unread c.records.buf) = omega (arith, c.remaining.ensures, c.records-test.true) in
    rw (p.1, p.2) (stop_tag _ _ _ _ _ c.records.invariant.0 _ c.in_err-tag.field-0.0 c.in_err-tag.ensures.left more c.in_err-tag.ensures.reads)

pub returns-then-field_number-number-clause-err : goal.returns-then-field_number-number-clause-err
returns-then-field_number-number-clause-err g c =
    let more : 0 < length (g.B.Buf.unread c.records.buf) = omega (arith, c.remaining.ensures, c.records-test.true) in
    rw c.field_number-then-field_number-number.ensures (stop_other _ _ _ _ _ c.records.invariant.0 _ _ _ more c.in_ok-tag.ensures.reads (λ e. c.if-field_number-number.true (c.field_number.ensures ∙ e)))

pub returns-in_err-check_wire_type-clause-err : goal.returns-in_err-check_wire_type-clause-err
returns-in_err-check_wire_type-clause-err g c =
    let p = err_from_is_err_and c.from_residual-in_err-check_wire_type.result c.from_residual-in_err-check_wire_type.ensures.1 in
    let more : 0 < length (g.B.Buf.unread c.records.buf) = omega (arith, c.remaining.ensures, c.records-test.true) in
    let same = sym c.field_number.ensures ∙ c.if-field_number-number.false in
    rw (p.1, p.2) (stop_mismatch _ _ _ _ _ c.records.invariant.0 _ _ _ more c.in_ok-tag.ensures.reads c.in_err-check_wire_type.field-0.0 same c.in_err-check_wire_type.ensures)

pub records-smaller : goal.records-smaller
records-smaller g c =
    let more : 0 < length (g.B.Buf.unread c.records.buf) = omega (arith, c.remaining.ensures, c.records-test.true) in
    let same = sym c.field_number.ensures ∙ c.if-field_number-number.false in
    less _ _ _ _ _ c.records.invariant.0 _ _ _ more c.in_ok-tag.ensures.reads same c.in_ok-check_wire_type.ensures _ _ c.in_ok-merge_entry_by.ensures.ok

pub records-preserved : goal.records-preserved
records-preserved g c =
    let more : 0 < length (g.B.Buf.unread c.records.buf) = omega (arith, c.remaining.ensures, c.records-test.true) in
    let same = sym c.field_number.ensures ∙ c.if-field_number-number.false in
    let reached = one_more _ _ _ _ _ c.records.invariant.0 _ _ _ more c.in_ok-tag.ensures.reads same c.in_ok-check_wire_type.ensures g.met.C.MapStorage.equivalence _ _ c.in_ok-merge_entry_by.ensures.ok in
    (reached, c.merge_entry_by.ensures.kept ∙ c.decode.ensures.kept ∙ c.records.invariant.1, omega (arith, c.records.invariant.2, c.merge_entry_by.ensures.room))

pub returns-in_err-merge_entry_by-clause-err : goal.returns-in_err-merge_entry_by-clause-err
returns-in_err-merge_entry_by-clause-err g c =
    let p = err_from_is_err_and c.from_residual-in_err-merge_entry_by.result c.from_residual-in_err-merge_entry_by.ensures.1 in
    let more : 0 < length (g.B.Buf.unread c.records.buf) = omega (arith, c.remaining.ensures, c.records-test.true) in
    let same = sym c.field_number.ensures ∙ c.if-field_number-number.false in
    rw (p.1, p.2) (stop_entry _ _ _ _ _ c.records.invariant.0 _ _ _ more c.in_ok-tag.ensures.reads same c.in_ok-check_wire_type.ensures _ _ c.in_err-merge_entry_by.field-0.0 c.in_err-merge_entry_by.ensures.err)

pub returns-clause-ok : goal.returns-clause-ok
returns-clause-ok g c = all_reached _ _ _ _ _ c.records.invariant.0 (omega (arith, c.remaining.ensures, c.records-test.false))
