use Rattle.std.proofs.Common.{arith, ◌<◌, ◌∙◌, true, length, refl, sym}
use Rattle.std.proofs.lemmas.Result.{err_from_is_err_and}
use Rattle.buffa_map.proofs.FieldsLemmas.{all_fields, bad_field, fewer, no_field, one_field}
use Rattle.buffa_map.proofs.entry_fields.merge_fields.Goals as goal

pub fields-init : goal.fields-init
fields-init g c =
    let key = c.blank.ensures ∙ sym g.met.KC.MapValueDecode.blank in
    let val = c.blank-2.ensures ∙ sym g.met.W.MergeValue.blank in
    (no_field _ _ _ _ _ _ (λ i. record { key = key i; value = val i; known = true }), refl, refl)

pub fields-smaller : goal.fields-smaller
fields-smaller g c = fewer _ _ _ _ _ _ _ _ c.fields.invariant.0 _ _ _ c.in_ok-merge_field.ensures.ok

pub fields-preserved : goal.fields-preserved
fields-preserved g c =
    let some : 0 < length (g.B.Buf.unread c.fields.buf) = omega (arith, c.remaining.ensures, c.fields-test.true) in
    (one_field _ _ _ _ _ _ _ _ c.fields.invariant.0 _ _ _ some c.in_ok-merge_field.ensures.ok, refl, c.merge_field.ensures.kept ∙ c.fields.invariant.2)

pub returns-in_err-merge_field-clause-err : goal.returns-in_err-merge_field-clause-err
returns-in_err-merge_field-clause-err g c =
    let p = err_from_is_err_and c.from_residual.result c.from_residual.ensures.1 in
    let some : 0 < length (g.B.Buf.unread c.fields.buf) = omega (arith, c.remaining.ensures, c.fields-test.true) in
    rw (p.1, p.2) (bad_field _ _ _ _ _ _ _ _ c.fields.invariant.0 _ c.in_err-merge_field.field-0.0 some c.in_err-merge_field.ensures.err)

pub returns-clause-ok : goal.returns-clause-ok
returns-clause-ok g c = all_fields _ _ _ _ _ _ _ _ c.fields.invariant.0 (omega (arith, c.remaining.ensures, c.fields-test.false))
