use Rattle.std.proofs.lemmas.Result.{err_from_is_err_and}
use Rattle.buffa_bytes.proofs.DelimitedLemmas.{delimited_taken}
use Rattle.buffa_map.proofs.MergeLemmas.{bad_parts, is_kept, is_put, not_kept, not_put}
use Rattle.buffa_map.proofs.PartsLemmas.{all_read, bad_fields}
use Rattle.buffa_bytes.proofs.ResultLemmas.{IfErr-both, IfErr-with, OnOk-both}
use Rattle.std.proofs.Common.{arith}
use Rattle.buffa_map.proofs.entry.merge_charged.Goals as goal

pub returns-in_err-parts-clause-err : goal.returns-in_err-parts-clause-err
returns-in_err-parts-clause-err g c =
    let p = err_from_is_err_and c.from_residual.result c.from_residual.ensures.1 in
    rw (p.1, p.2) (λ bytes rest is. bad_parts _ _ _ _ _ _ _ (delimited_taken _ _ _ is) _ c.in_err-parts.field-0.0 (bad_fields _ _ _ _ _ _ c.args.ctx.budget.now (omega arith) (omega arith) _ _ c.in_err-parts.ensures.err))

pub returns-clause-ok : goal.returns-clause-ok
returns-clause-ok g c =
    OnOk-both c.put_pair.result (λ h order. λ bytes rest is. is_put _ _ _ _ _ _ _ (delimited_taken _ _ _ is) _ _ (all_read _ _ _ _ _ _ c.args.ctx.budget.now (omega arith) (omega arith) _ _ c.in_ok-parts.ensures.ok) c.if-not-parts.false _ h order) c.put_pair.ensures.ok c.put_pair.ensures.order

pub returns-clause-err : goal.returns-clause-err
returns-clause-err g c =
    IfErr-with c.put_pair.result (λ f same out. λ bytes rest is. not_put _ _ _ _ _ _ _ (delimited_taken _ _ _ is) _ _ (all_read _ _ _ _ _ _ c.args.ctx.budget.now (omega arith) (omega arith) _ _ c.in_ok-parts.ensures.ok) c.if-not-parts.false _ f out same) c.put_pair.ensures.err c.put_pair.ensures.full

pub returns-then-not-parts-clause-ok : goal.returns-then-not-parts-clause-ok
returns-then-not-parts-clause-ok g c =
    OnOk-both c.keep.result (λ h pays. λ bytes rest is. is_kept _ _ _ _ _ _ _ (delimited_taken _ _ _ is) _ _ (all_read _ _ _ _ _ _ c.args.ctx.budget.now (omega arith) (omega arith) _ _ c.in_ok-parts.ensures.ok) c.if-not-parts.true _ _ h pays c.keep.ensures.memory) c.keep.ensures.ok c.keep.ensures.pays

pub returns-then-not-parts-clause-err : goal.returns-then-not-parts-clause-err
returns-then-not-parts-clause-err g c =
    IfErr-both c.keep.result (λ f a h k. λ bytes rest is. not_kept _ _ _ _ _ _ _ (delimited_taken _ _ _ is) _ _ (all_read _ _ _ _ _ _ c.args.ctx.budget.now (omega arith) (omega arith) _ _ c.in_ok-parts.ensures.ok) c.if-not-parts.true _ _ f a.0 a.1 a.2 c.keep.ensures.memory h k) c.keep.ensures.err c.keep.ensures.fault c.keep.ensures.full
