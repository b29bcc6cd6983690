use Rattle.std.proofs.Common.{arith}
use Rattle.std.proofs.lemmas.Result.{err_from_is_err_and, IfErr-weaker, IfOk-weaker}
use Rattle.buffa_map.proofs.PartsLemmas.{all_read, bad_fields, no_units}
use Rattle.buffa_map.proofs.entry.read_parts.Goals as goal

pub returns-in_err-charge-clause-err : goal.returns-in_err-charge-clause-err
returns-in_err-charge-clause-err g c =
    let p = err_from_is_err_and c.from_residual.result c.from_residual.ensures.1 in
    let err = c.in_err-charge.ensures in
    rw (p.1, p.2) (no_units _ _ _ _ _ _ c.charge.new.budget c.in_err-charge.field-0.0 (omega (arith, err.err.0, c.COST.ensures, c.COST-2.ensures)) err.err.1 err.which)

pub returns-clause-ok : goal.returns-clause-ok
returns-clause-ok g c =
    let charged = c.in_ok-charge.ensures.ok in
    IfOk-weaker c.merge_fields.result _ _ (λ parts h. all_read _ _ _ _ _ _ c.charge.new.budget (omega (arith, charged.0, c.COST.ensures, c.COST-2.ensures)) charged.1 _ _ h) c.merge_fields.ensures.ok

pub returns-clause-err : goal.returns-clause-err
returns-clause-err g c =
    let charged = c.in_ok-charge.ensures.ok in
    IfErr-weaker c.merge_fields.result _ _ (λ f h. bad_fields _ _ _ _ _ _ c.charge.new.budget (omega (arith, charged.0, c.COST.ensures, c.COST-2.ensures)) charged.1 _ f h) c.merge_fields.ensures.err
