use Rattle.std.proofs.Common.{◌∙◌, sym}
use Rattle.std.proofs.lemmas.Result.{err_from_is_err_and}
use Rattle.buffa_bytes.proofs.FullLemmas.{tag_no_full}
use Rattle.buffa_bytes.proofs.TailLemmas.{tail_more}
use Rattle.buffa_message_set.proofs.ItemLemmas.{bad_field, ended_item, fewer, found_message, next_field, no_tag}
use Rattle.buffa_message_set.proofs.message_set.read_fields.Goals as goal

pub returns-in_err-tag-clause-reads : goal.returns-in_err-tag-clause-reads
returns-in_err-tag-clause-reads g c =
    let p = err_from_is_err_and c.from_residual.result c.from_residual.ensures.1 in
    rw (p.1, p.2) (λ other. no_tag _ _ _ _ c.loop-tag.invariant.reached _ c.in_err-tag.ensures.reads)

pub returns-in_err-tag-clause-full : goal.returns-in_err-tag-clause-full
returns-in_err-tag-clause-full g c =
    let p = err_from_is_err_and c.from_residual.result c.from_residual.ensures.1 in
    rw (p.1, p.2) (tag_no_full _ _ c.in_err-tag.ensures.reads)

pub returns-then-is_of-clause-reads : goal.returns-then-is_of-clause-reads
returns-then-is_of-clause-reads g c =
    ended_item _ _ _ _ c.loop-tag.invariant.reached _ _ _ c.in_ok-tag.ensures.reads (sym c.is_of.ensures ∙ c.if-is_of.true)

pub loop-tag-smaller : goal.loop-tag-smaller
loop-tag-smaller g c =
    fewer _ _ _ _ c.loop-tag.invariant.reached _ _ _ c.in_ok-tag.ensures.reads (sym c.is_of.ensures ∙ c.if-is_of.false) _ _ c.in_ok-merge_field.ensures.reads

pub loop-tag-preserved : goal.loop-tag-preserved
loop-tag-preserved g c = record {
  reached = next_field _ _ _ _ c.loop-tag.invariant.reached _ _ _ c.in_ok-tag.ensures.reads (sym c.is_of.ensures ∙ c.if-is_of.false) _ _ c.in_ok-merge_field.ensures.reads;
  tail = tail_more _ _ _ c.in_ok-merge_field.ensures.tail (tail_more _ _ _ c.in_ok-tag.ensures.tail c.loop-tag.invariant.tail);
  kept = c.in_ok-merge_field.ensures.kept ∙ c.in_ok-tag.ensures.kept ∙ c.loop-tag.invariant.kept;
}

pub returns-in_err-merge_field-clause-reads : goal.returns-in_err-merge_field-clause-reads
returns-in_err-merge_field-clause-reads g c =
    let p = err_from_is_err_and c.from_residual-in_err-merge_field.result c.from_residual-in_err-merge_field.ensures.1 in
    rw (p.1, p.2) (λ other. bad_field _ _ _ _ c.loop-tag.invariant.reached _ _ _ c.in_ok-tag.ensures.reads (sym c.is_of.ensures ∙ c.if-is_of.false) _ (c.in_err-merge_field.ensures.reads other))

pub returns-in_err-merge_field-clause-full : goal.returns-in_err-merge_field-clause-full
returns-in_err-merge_field-clause-full g c =
    let p = err_from_is_err_and c.from_residual-in_err-merge_field.result c.from_residual-in_err-merge_field.ensures.1 in
    rw (p.1, p.2) (λ k. found_message _ _ _ _ c.loop-tag.invariant.reached _ _ _ c.in_ok-tag.ensures.reads (c.in_err-merge_field.ensures.full k))

pub returns-in_err-tag-clause-kept : goal.returns-in_err-tag-clause-kept
returns-in_err-tag-clause-kept g c = c.in_err-tag.ensures.kept ∙ c.loop-tag.invariant.kept

pub returns-in_err-tag-clause-tail : goal.returns-in_err-tag-clause-tail
returns-in_err-tag-clause-tail g c = tail_more _ _ _ c.in_err-tag.ensures.tail c.loop-tag.invariant.tail

pub returns-then-is_of-clause-kept : goal.returns-then-is_of-clause-kept
returns-then-is_of-clause-kept g c = c.in_ok-tag.ensures.kept ∙ c.loop-tag.invariant.kept

pub returns-then-is_of-clause-tail : goal.returns-then-is_of-clause-tail
returns-then-is_of-clause-tail g c = tail_more _ _ _ c.in_ok-tag.ensures.tail c.loop-tag.invariant.tail

pub returns-in_err-merge_field-clause-kept : goal.returns-in_err-merge_field-clause-kept
returns-in_err-merge_field-clause-kept g c =
    c.in_err-merge_field.ensures.kept ∙ c.in_ok-tag.ensures.kept ∙ c.loop-tag.invariant.kept

pub returns-in_err-merge_field-clause-tail : goal.returns-in_err-merge_field-clause-tail
returns-in_err-merge_field-clause-tail g c =
    tail_more _ _ _ c.in_err-merge_field.ensures.tail (tail_more _ _ _ c.in_ok-tag.ensures.tail c.loop-tag.invariant.tail)
