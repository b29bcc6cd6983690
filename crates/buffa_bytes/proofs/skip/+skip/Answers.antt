use Rattle.std.proofs.Common.{ap, arith, ◌∙◌, refl, sym}
use Rattle.std.proofs.lemmas.Result.{err_from_is_err_and}
use Rattle.buffa_bytes.proofs.FieldLemmas.{tag_falls, skip_falls, group_limit, group_tag_err, group_end, group_other, group_skip_err, group_next}
use Rattle.buffa_bytes.proofs.UnreadLemmas.{end_stays, fixed32_stays, fixed64_stays, left_behind_length, left_bytes, left_of_fixed, left_of_length, left_of_delimited, left_of_varint}
use Rattle.buffa_bytes.proofs.TailLemmas.{tail_more, tail_whole}
use Rattle.buffa_bytes.specs.Unread.{past_no_payload}
use Rattle.buffa_bytes.specs.declared.wire_type.WireType.TheVariants.{Fixed32, Fixed64}
use Rattle.buffa_bytes.proofs.skip.+skip.Goals as goal

pub skip_group-returns-then-depth-eq0-clause-reads : goal.skip_group-returns-then-depth-eq0-clause-reads
skip_group-returns-then-depth-eq0-clause-reads g t c = group_limit _ _ _ c.if-depth-eq0.true

pub skip_group-returns-in_err-tag-clause-reads : goal.skip_group-returns-in_err-tag-clause-reads
skip_group-returns-in_err-tag-clause-reads g t c =
    let p = err_from_is_err_and c.from_residual.result c.from_residual.ensures.1 in
    rw (p.1, p.2) (group_tag_err _ _ _ _ _ c.if-depth-eq0.false c.loop-tag.invariant.read c.in_err-tag.ensures.reads)

pub skip_group-returns-then-field_number-number-clause-reads : goal.skip_group-returns-then-field_number-number-clause-reads
skip_group-returns-then-field_number-number-clause-reads g t c =
    group_end _ _ _ _ _ c.if-depth-eq0.false c.loop-tag.invariant.read c.in_ok-tag.ensures.reads (sym c.in-EndGroup.ensures) (sym c.field_number.ensures ∙ c.if-field_number-number.true)

pub skip_group-returns-in-EndGroup-clause-reads : goal.skip_group-returns-in-EndGroup-clause-reads
skip_group-returns-in-EndGroup-clause-reads g t c =
    rw c.field_number-in-EndGroup.ensures (group_other _ _ _ _ _ c.if-depth-eq0.false c.loop-tag.invariant.read c.in_ok-tag.ensures.reads (sym c.in-EndGroup.ensures) (λ e. c.if-field_number-number.false (c.field_number.ensures ∙ e)))

pub skip_group-loop-tag-smaller : goal.skip_group-loop-tag-smaller
skip_group-loop-tag-smaller g t c = omega (arith, tag_falls _ _ c.in_ok-tag.ensures.reads, skip_falls _ _ _ _ _ c.in_ok-skip_field_depth.ensures.reads)

pub skip_group-loop-tag-preserved : goal.skip_group-loop-tag-preserved
skip_group-loop-tag-preserved g t c = record {
  tail = tail_more _ _ _ c.in_ok-skip_field_depth.ensures.tail (tail_more _ _ _ c.in_ok-tag.ensures.tail c.loop-tag.invariant.tail);
  kept = c.in_ok-skip_field_depth.ensures.kept ∙ c.in_ok-tag.ensures.kept ∙ c.loop-tag.invariant.kept;
  read = group_next _ _ _ _ _ _ c.if-depth-eq0.false c.loop-tag.invariant.read c.in_ok-tag.ensures.reads (λ e. c.in_default.not-EndGroup (c.wire_type.ensures ∙ e)) c.in_ok-skip_field_depth.ensures.reads;
}

pub skip_group-returns-in_err-skip_field_depth : goal.skip_group-returns-in_err-skip_field_depth
skip_group-returns-in_err-skip_field_depth g t c =
    let p = err_from_is_err_and c.from_residual-in_err-skip_field_depth.result c.from_residual-in_err-skip_field_depth.ensures.1 in
    record {
      reads = rw (p.1, p.2) (group_skip_err _ _ _ _ _ _ c.if-depth-eq0.false c.loop-tag.invariant.read c.in_ok-tag.ensures.reads (λ e. c.in_default.not-EndGroup (c.wire_type.ensures ∙ e)) c.in_err-skip_field_depth.ensures.reads);
      level = λ k. absurd (c.if-depth-eq0.false k);
      tail = tail_more _ _ _ c.in_err-skip_field_depth.ensures.tail (tail_more _ _ _ c.in_ok-tag.ensures.tail c.loop-tag.invariant.tail);
      kept = c.in_err-skip_field_depth.ensures.kept ∙ c.in_ok-tag.ensures.kept ∙ c.loop-tag.invariant.kept;
    }

pub skip_field_depth-returns-in_err-decode_varint-in-Varint-clause-left : goal.skip_field_depth-returns-in_err-decode_varint-in-Varint-clause-left
skip_field_depth-returns-in_err-decode_varint-in-Varint-clause-left g t c = λ _.
    let p = err_from_is_err_and c.from_residual.result c.from_residual.ensures.1 in
    left_of_varint p.1 c.args.tag.wire_type (g.B.Buf.unread c.args.buf.now) _ (sym c.in-Varint.ensures) c.in_err-decode_varint-in-Varint.ensures.left

pub skip_field_depth-returns-in_err-len-in-LengthDelimited-clause-left : goal.skip_field_depth-returns-in_err-len-in-LengthDelimited-clause-left
skip_field_depth-returns-in_err-len-in-LengthDelimited-clause-left g t c = λ _.
    let p = err_from_is_err_and c.from_residual-in_err-len-in-LengthDelimited.result c.from_residual-in_err-len-in-LengthDelimited.ensures.1 in
    left_of_length p.1 c.args.tag.wire_type (g.B.Buf.unread c.args.buf.now) _ (sym c.in-LengthDelimited.ensures) c.in_err-len-in-LengthDelimited.ensures.reads c.in_err-len-in-LengthDelimited.ensures.left

pub skip_field_depth-returns-in-Fixed64-clause-left : goal.skip_field_depth-returns-in-Fixed64-clause-left
skip_field_depth-returns-in-Fixed64-clause-left g t c = λ _.
    let r = c.skip_bytes.result in
    left_of_fixed r c.args.tag.wire_type Fixed64 (g.B.Buf.unread c.args.buf.now) _ (sym c.in-Fixed64.ensures) (fixed64_stays _) (left_bytes r 8 _ _ c.skip_bytes.ensures.reads c.skip_bytes.ensures.short)

pub skip_field_depth-returns-in_ok-len-in-LengthDelimited-clause-left : goal.skip_field_depth-returns-in_ok-len-in-LengthDelimited-clause-left
skip_field_depth-returns-in_ok-len-in-LengthDelimited-clause-left g t c = λ _.
    let r = c.skip_bytes-in-LengthDelimited.result in
    left_of_delimited r c.args.tag.wire_type (g.B.Buf.unread c.args.buf.now) _ (sym c.in-LengthDelimited.ensures)
    (left_behind_length r _ (g.B.Buf.unread c.args.buf.now) _ _ c.in_ok-len-in-LengthDelimited.ensures.reads c.skip_bytes-in-LengthDelimited.ensures.reads c.skip_bytes-in-LengthDelimited.ensures.short)

pub skip_field_depth-returns-in-EndGroup-clause-left : goal.skip_field_depth-returns-in-EndGroup-clause-left
skip_field_depth-returns-in-EndGroup-clause-left g t c = λ _.
    sym (end_stays (g.B.Buf.unread c.args.buf.now)) ∙ ap (λ w. past_no_payload w (g.B.Buf.unread c.args.buf.now)) c.in-EndGroup.ensures

pub skip_field_depth-returns-in-Fixed32-clause-left : goal.skip_field_depth-returns-in-Fixed32-clause-left
skip_field_depth-returns-in-Fixed32-clause-left g t c = λ _.
    let r = c.skip_bytes-in-Fixed32.result in
    left_of_fixed r c.args.tag.wire_type Fixed32 (g.B.Buf.unread c.args.buf.now) _ (sym c.in-Fixed32.ensures) (fixed32_stays _) (left_bytes r 4 _ _ c.skip_bytes-in-Fixed32.ensures.reads c.skip_bytes-in-Fixed32.ensures.short)

pub skip_field_depth-returns-in_err-decode_varint-in-Varint-clause-kept : goal.skip_field_depth-returns-in_err-decode_varint-in-Varint-clause-kept
skip_field_depth-returns-in_err-decode_varint-in-Varint-clause-kept g t c = c.in_err-decode_varint-in-Varint.ensures.kept

pub skip_field_depth-returns-in_err-decode_varint-in-Varint-clause-tail : goal.skip_field_depth-returns-in_err-decode_varint-in-Varint-clause-tail
skip_field_depth-returns-in_err-decode_varint-in-Varint-clause-tail g t c = c.in_err-decode_varint-in-Varint.ensures.tail

pub skip_field_depth-returns-in_ok-decode_varint-in-Varint-clause-kept : goal.skip_field_depth-returns-in_ok-decode_varint-in-Varint-clause-kept
skip_field_depth-returns-in_ok-decode_varint-in-Varint-clause-kept g t c = c.in_ok-decode_varint-in-Varint.ensures.kept

pub skip_field_depth-returns-in_ok-decode_varint-in-Varint-clause-tail : goal.skip_field_depth-returns-in_ok-decode_varint-in-Varint-clause-tail
skip_field_depth-returns-in_ok-decode_varint-in-Varint-clause-tail g t c = c.in_ok-decode_varint-in-Varint.ensures.tail

pub skip_field_depth-returns-in-Fixed64-clause-kept : goal.skip_field_depth-returns-in-Fixed64-clause-kept
skip_field_depth-returns-in-Fixed64-clause-kept g t c = c.skip_bytes.ensures.kept

pub skip_field_depth-returns-in-Fixed64-clause-tail : goal.skip_field_depth-returns-in-Fixed64-clause-tail
skip_field_depth-returns-in-Fixed64-clause-tail g t c = c.skip_bytes.ensures.tail

pub skip_field_depth-returns-in_err-len-in-LengthDelimited-clause-kept : goal.skip_field_depth-returns-in_err-len-in-LengthDelimited-clause-kept
skip_field_depth-returns-in_err-len-in-LengthDelimited-clause-kept g t c = c.in_err-len-in-LengthDelimited.ensures.kept

pub skip_field_depth-returns-in_err-len-in-LengthDelimited-clause-tail : goal.skip_field_depth-returns-in_err-len-in-LengthDelimited-clause-tail
skip_field_depth-returns-in_err-len-in-LengthDelimited-clause-tail g t c = c.in_err-len-in-LengthDelimited.ensures.tail

pub skip_field_depth-returns-in_ok-len-in-LengthDelimited-clause-kept : goal.skip_field_depth-returns-in_ok-len-in-LengthDelimited-clause-kept
skip_field_depth-returns-in_ok-len-in-LengthDelimited-clause-kept g t c = c.skip_bytes-in-LengthDelimited.ensures.kept ∙ c.in_ok-len-in-LengthDelimited.ensures.kept

pub skip_field_depth-returns-in_ok-len-in-LengthDelimited-clause-tail : goal.skip_field_depth-returns-in_ok-len-in-LengthDelimited-clause-tail
skip_field_depth-returns-in_ok-len-in-LengthDelimited-clause-tail g t c = tail_more _ _ _ c.skip_bytes-in-LengthDelimited.ensures.tail c.in_ok-len-in-LengthDelimited.ensures.tail

pub skip_field_depth-returns-in-StartGroup-clause-kept : goal.skip_field_depth-returns-in-StartGroup-clause-kept
skip_field_depth-returns-in-StartGroup-clause-kept g t c = c.skip_group.ensures.kept

pub skip_field_depth-returns-in-StartGroup-clause-tail : goal.skip_field_depth-returns-in-StartGroup-clause-tail
skip_field_depth-returns-in-StartGroup-clause-tail g t c = c.skip_group.ensures.tail

pub skip_field_depth-returns-in-Fixed32-clause-kept : goal.skip_field_depth-returns-in-Fixed32-clause-kept
skip_field_depth-returns-in-Fixed32-clause-kept g t c = c.skip_bytes-in-Fixed32.ensures.kept

pub skip_field_depth-returns-in-Fixed32-clause-tail : goal.skip_field_depth-returns-in-Fixed32-clause-tail
skip_field_depth-returns-in-Fixed32-clause-tail g t c = c.skip_bytes-in-Fixed32.ensures.tail

pub skip_field_depth-returns-in-EndGroup-clause-kept : goal.skip_field_depth-returns-in-EndGroup-clause-kept
skip_field_depth-returns-in-EndGroup-clause-kept g t c = refl

pub skip_field_depth-returns-in-EndGroup-clause-tail : goal.skip_field_depth-returns-in-EndGroup-clause-tail
skip_field_depth-returns-in-EndGroup-clause-tail g t c = tail_whole _

pub skip_group-returns-then-depth-eq0-clause-kept : goal.skip_group-returns-then-depth-eq0-clause-kept
skip_group-returns-then-depth-eq0-clause-kept g t c = refl

pub skip_group-returns-then-depth-eq0-clause-tail : goal.skip_group-returns-then-depth-eq0-clause-tail
skip_group-returns-then-depth-eq0-clause-tail g t c = tail_whole _

pub skip_group-returns-then-depth-eq0-clause-level : goal.skip_group-returns-then-depth-eq0-clause-level
skip_group-returns-then-depth-eq0-clause-level g t c = λ _. refl

pub skip_group-returns-in_err-tag-clause-kept : goal.skip_group-returns-in_err-tag-clause-kept
skip_group-returns-in_err-tag-clause-kept g t c = c.in_err-tag.ensures.kept ∙ c.loop-tag.invariant.kept

pub skip_group-returns-in_err-tag-clause-tail : goal.skip_group-returns-in_err-tag-clause-tail
skip_group-returns-in_err-tag-clause-tail g t c = tail_more _ _ _ c.in_err-tag.ensures.tail c.loop-tag.invariant.tail

pub skip_group-returns-in_err-tag-clause-level : goal.skip_group-returns-in_err-tag-clause-level
skip_group-returns-in_err-tag-clause-level g t c = λ k. absurd (c.if-depth-eq0.false k)

pub skip_group-returns-then-field_number-number-clause-kept : goal.skip_group-returns-then-field_number-number-clause-kept
skip_group-returns-then-field_number-number-clause-kept g t c = c.in_ok-tag.ensures.kept ∙ c.loop-tag.invariant.kept

pub skip_group-returns-then-field_number-number-clause-tail : goal.skip_group-returns-then-field_number-number-clause-tail
skip_group-returns-then-field_number-number-clause-tail g t c = tail_more _ _ _ c.in_ok-tag.ensures.tail c.loop-tag.invariant.tail

pub skip_group-returns-then-field_number-number-clause-level : goal.skip_group-returns-then-field_number-number-clause-level
skip_group-returns-then-field_number-number-clause-level g t c = λ k. absurd (c.if-depth-eq0.false k)

pub skip_group-returns-in-EndGroup-clause-kept : goal.skip_group-returns-in-EndGroup-clause-kept
skip_group-returns-in-EndGroup-clause-kept g t c = c.in_ok-tag.ensures.kept ∙ c.loop-tag.invariant.kept

pub skip_group-returns-in-EndGroup-clause-tail : goal.skip_group-returns-in-EndGroup-clause-tail
skip_group-returns-in-EndGroup-clause-tail g t c = tail_more _ _ _ c.in_ok-tag.ensures.tail c.loop-tag.invariant.tail

pub skip_group-returns-in-EndGroup-clause-level : goal.skip_group-returns-in-EndGroup-clause-level
skip_group-returns-in-EndGroup-clause-level g t c = λ k. absurd (c.if-depth-eq0.false k)
