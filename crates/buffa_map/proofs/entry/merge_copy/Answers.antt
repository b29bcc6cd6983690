use Rattle.std.proofs.Common.{arith, inl, inr, refl, ◌∙◌}
use Rattle.std.proofs.lemmas.Result.{err_from_is_err_and, on_ok_weaker, IfErr-weaker}
use Rattle.buffa_bytes.proofs.DelimitedLemmas.{after_length}
use Rattle.buffa_map.proofs.MergeLemmas.{bad_cut, charged_merged, charged_refused, cut_no_copy}
use Rattle.buffa_map.proofs.PartsLemmas.{no_units}
use Rattle.buffa_map.proofs.TailLemmas.{delimited_there}
use Rattle.buffa_map.proofs.entry.merge_copy.Goals as goal

pub returns-then-len-remaining-clause-err : goal.returns-then-len-remaining-clause-err
returns-then-len-remaining-clause-err g c =
    λ bytes len. bad_cut _ _ _ _ _ _ _ _ _ _ len (inl (omega (arith, c.if-len-remaining.true, c.remaining.ensures), refl, refl, refl))

pub returns-in-Err-clause-err : goal.returns-in-Err-clause-err
returns-in-Err-clause-err g c =
    let err = c.in-Err.ensures in
    λ bytes len. bad_cut _ _ _ _ _ _ _ _ _ _ len (inr (omega (arith, c.if-len-remaining.false, c.remaining.ensures), c.advance.ensures.rest, no_units _ _ _ _ _ _ c.charge.new.budget c.in-Err.fault (omega (arith, err.err.0, c.COST.ensures, c.COST-2.ensures)) err.err.1 err.which))

pub returns-in_err-entry-clause-err : goal.returns-in_err-entry-clause-err
returns-in_err-entry-clause-err g c =
    let p = err_from_is_err_and c.from_residual.result c.from_residual.ensures.1 in
    let charged = c.in_default.ensures.ok in
    let copy = c.in_err-entry.ensures in
    rw (p.1, p.2) (λ bytes len. cut_no_copy _ _ _ _ _ _ _ _ c.charge.new.budget _ len (omega (arith, c.if-len-remaining.false, c.remaining.ensures)) (c.requires.keeps, g.met.W.MergeValue.undeclared ∙ c.requires.undeclared) copy.free copy.tail copy.within copy.reads (omega (arith, charged.0, c.COST.ensures, c.COST-2.ensures)) charged.1)

pub returns-clause-ok : goal.returns-clause-ok
returns-clause-ok g c =
    let charged = c.in_default.ensures.ok in
    on_ok_weaker c.merge_charged.result (λ h. λ bytes len. charged_merged _ _ _ _ c.charge.new.budget (omega (arith, charged.0, c.COST.ensures, c.COST-2.ensures)) charged.1 _ _ h _ _ (rw c.deref.ensures.value (delimited_there _ _ _ (after_length _ _ _ len ∙ c.in_ok-entry.ensures.reads)))) c.merge_charged.ensures.ok

pub returns-clause-err : goal.returns-clause-err
returns-clause-err g c =
    let charged = c.in_default.ensures.ok in
    IfErr-weaker c.merge_charged.result _ _ (λ f h. λ bytes len. charged_refused _ _ _ _ c.charge.new.budget (omega (arith, charged.0, c.COST.ensures, c.COST-2.ensures)) charged.1 _ _ _ h _ _ (rw c.deref.ensures.value (delimited_there _ _ _ (after_length _ _ _ len ∙ c.in_ok-entry.ensures.reads)))) c.merge_charged.ensures.err
