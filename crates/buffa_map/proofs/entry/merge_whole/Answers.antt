use Rattle.std.proofs.Common.{arith}
use Rattle.std.proofs.lemmas.Result.{err_from_is_err_and, on_ok_weaker, IfErr-weaker}
use Rattle.buffa_bytes.proofs.DelimitedLemmas.{delimited_taken}
use Rattle.buffa_map.proofs.MergeLemmas.{bad_parts, charged_merged, charged_refused}
use Rattle.buffa_map.proofs.PartsLemmas.{no_units}
use Rattle.buffa_map.proofs.entry.merge_whole.Goals as goal

pub returns-in_err-charge-clause-err : goal.returns-in_err-charge-clause-err
returns-in_err-charge-clause-err g c =
    let p = err_from_is_err_and c.from_residual.result c.from_residual.ensures.1 in
    let err = c.in_err-charge.ensures in
    rw (p.1, p.2) (λ bytes rest is. bad_parts _ _ _ _ _ _ _ (delimited_taken _ _ _ is) _ c.in_err-charge.field-0.0 (no_units _ _ _ _ _ _ c.charge.new.budget c.in_err-charge.field-0.0 (omega (arith, err.err.0, c.COST.ensures, c.COST-2.ensures)) err.err.1 err.which))

pub returns-clause-ok : goal.returns-clause-ok
returns-clause-ok g c =
    let charged = c.in_ok-charge.ensures.ok in
    on_ok_weaker c.merge_charged.result (λ h. charged_merged _ _ _ _ c.charge.new.budget (omega (arith, charged.0, c.COST.ensures, c.COST-2.ensures)) charged.1 _ _ h) c.merge_charged.ensures.ok

pub returns-clause-err : goal.returns-clause-err
returns-clause-err g c =
    let charged = c.in_ok-charge.ensures.ok in
    IfErr-weaker c.merge_charged.result _ _ (λ f h. charged_refused _ _ _ _ c.charge.new.budget (omega (arith, charged.0, c.COST.ensures, c.COST-2.ensures)) charged.1 _ _ _ h) c.merge_charged.ensures.err
