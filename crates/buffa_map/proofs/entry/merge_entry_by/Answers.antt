use Rattle.std.proofs.Common.{sym, ◌∙◌}
use Rattle.std.proofs.lemmas.Result.{err_from_is_err_and, on_ok_weaker, IfErr-weaker}
use Rattle.std.proofs.lemmas.Bool.{false≢true}
use Rattle.buffa_bytes.proofs.FullLemmas.{varint_no_full}
use Rattle.buffa_bytes.proofs.LendLemmas.{delimited_front}
use Rattle.buffa_map.proofs.MergeLemmas.{bad_cut, is_dropped, is_put, no_entry, not_put}
use Rattle.buffa_map.proofs.PartsLemmas.{entry_declared}
use Rattle.buffa_bytes.proofs.ResultLemmas.{IfErr-with, OnOk-both}
use Rattle.buffa_map.proofs.TailLemmas.{delimited_there, cut_front, past_short, delimited_short}
use Rattle.buffa_map.proofs.entry.merge_entry_by.Goals.{else-KEEPS-via-then-KEEPS+else-MAY_RETURN_UNKNOWN, else-KEEPS-via-else-KEEPS}
use Rattle.buffa_map.proofs.entry.merge_entry_by.Goals as goal

pub returns-in_err-len-clause-err : goal.returns-in_err-len-clause-err
returns-in_err-len-clause-err g c =
    let p = err_from_is_err_and c.from_residual.result c.from_residual.ensures.1 in
    let len = c.in_err-len.ensures in
    rw (p.1, p.2) (no_entry _ _ _ _ _ _ _ len.tail (delimited_short _ _ len.reads) (λ out. varint_no_full _ _ len.reads out) (past_short _ _ _ len.reads len.left))

pub returns-in-Some-clause-ok : goal.returns-in-Some-clause-ok
returns-in-Some-clause-ok g c =
    on_ok_weaker c.merge_whole-merged.result (λ h. h _ _ (rw c.advance.ensures.rest (delimited_there _ _ _ (delimited_front _ _ _ _ c.in_ok-len.ensures.reads c.in-Some.ensures)))) c.merge_whole-merged.ensures.ok

pub returns-in-Some-clause-err : goal.returns-in-Some-clause-err
returns-in-Some-clause-err g c =
    IfErr-weaker c.merge_whole-merged.result _ _ (λ f h. h _ _ (rw c.advance.ensures.rest (delimited_there _ _ _ (delimited_front _ _ _ _ c.in_ok-len.ensures.reads c.in-Some.ensures)))) c.merge_whole-merged.ensures.err

pub returns-in_err-parts-clause-err : goal.returns-in_err-parts-clause-err
returns-in_err-parts-clause-err g c =
    let p = err_from_is_err_and c.from_residual-in_err-parts.result c.from_residual-in_err-parts.ensures.1 in
    let len = c.in_ok-len.ensures in
    rw (p.1, p.2) (bad_cut _ _ _ _ _ _ _ _ _ _ len.reads c.in_err-parts.ensures.err)

pub returns-then-not-parts-clause-ok : goal.returns-then-not-parts-clause-ok
returns-then-not-parts-clause-ok g c =
    let cut = c.in_ok-parts.ensures.ok in
    elim c.else-KEEPS.branch [
      | else-KEEPS-via-then-KEEPS+else-MAY_RETURN_UNKNOWN w ↦
          let all = g.met.W.MergeValue.declared (sym w.MAY_RETURN_UNKNOWN.ensures ∙ w.if-MAY_RETURN_UNKNOWN.false) in
          absurd (false≢true (sym c.if-not-parts.true ∙ entry_declared _ _ _ all cut.parts))
      | else-KEEPS-via-else-KEEPS w ↦
          let none = sym c.KEEPS.ensures ∙ w.if-KEEPS.false in
          is_dropped _ _ _ _ _ _ _ (cut_front _ _ _ _ c.in_ok-len.ensures.reads cut.fits cut.follows) _ _ cut.parts c.if-not-parts.true none
    ]

pub returns-clause-ok : goal.returns-clause-ok
returns-clause-ok g c =
    let cut = c.in_ok-parts.ensures.ok in
    OnOk-both c.put_pair.result (λ h order. is_put _ _ _ _ _ _ _ (cut_front _ _ _ _ c.in_ok-len.ensures.reads cut.fits cut.follows) _ _ cut.parts c.if-not-parts.false _ h order) c.put_pair.ensures.ok c.put_pair.ensures.order

pub returns-clause-err : goal.returns-clause-err
returns-clause-err g c =
    let cut = c.in_ok-parts.ensures.ok in
    IfErr-with c.put_pair.result (λ f same out. not_put _ _ _ _ _ _ _ (cut_front _ _ _ _ c.in_ok-len.ensures.reads cut.fits cut.follows) _ _ cut.parts c.if-not-parts.false _ f out same) c.put_pair.ensures.err c.put_pair.ensures.full

pub returns-then-MAY_RETURN_UNKNOWN-clause-err : goal.returns-then-MAY_RETURN_UNKNOWN-clause-err
returns-then-MAY_RETURN_UNKNOWN-clause-err g c =
    IfErr-weaker c.merge_copy.result _ _ (λ f h. h _ c.in_ok-len.ensures.reads) c.merge_copy.ensures.err

pub returns-then-MAY_RETURN_UNKNOWN-clause-ok : goal.returns-then-MAY_RETURN_UNKNOWN-clause-ok
returns-then-MAY_RETURN_UNKNOWN-clause-ok g c =
    on_ok_weaker c.merge_copy.result (λ h. h _ c.in_ok-len.ensures.reads) c.merge_copy.ensures.ok
