use Rattle.std.proofs.Common.{inl, inr, refl}
use Rattle.std.proofs.lemmas.Result.{err_from_is_err_and}
use Rattle.sample_validator.proofs.rules.read_rules.Goals as goal

pub returns-clause-value : goal.returns-clause-value
returns-clause-value c = rw (c.unwrap_or.ensures, c.in_ok-read_int32_strictly.ensures.value, c.in_ok-read_int32_strictly-2.ensures.value, c.in_ok-read_bool_strictly.ensures.value) refl

pub returns-in_err-read_int32_strictly-clause-fault : goal.returns-in_err-read_int32_strictly-clause-fault
returns-in_err-read_int32_strictly-clause-fault c =
    let p = err_from_is_err_and c.from_residual.result c.from_residual.ensures.1 in
    rw (p.1, p.2) (inl c.in_err-read_int32_strictly.ensures.fault)

pub returns-in_err-read_int32_strictly-2-clause-fault : goal.returns-in_err-read_int32_strictly-2-clause-fault
returns-in_err-read_int32_strictly-2-clause-fault c =
    let p = err_from_is_err_and c.from_residual-in_err-read_int32_strictly-2.result c.from_residual-in_err-read_int32_strictly-2.ensures.1 in
    rw (p.1, p.2) (inr (inl (c.in_ok-read_int32_strictly.ensures.whole, c.in_err-read_int32_strictly-2.ensures.fault)))

pub returns-in_err-read_bool_strictly-clause-fault : goal.returns-in_err-read_bool_strictly-clause-fault
returns-in_err-read_bool_strictly-clause-fault c =
    let p = err_from_is_err_and c.from_residual-in_err-read_bool_strictly.result c.from_residual-in_err-read_bool_strictly.ensures.1 in
    rw (p.1, p.2) (inr (inr (c.in_ok-read_int32_strictly.ensures.whole, c.in_ok-read_int32_strictly-2.ensures.whole, c.in_err-read_bool_strictly.ensures.fault)))
