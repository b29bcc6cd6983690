use Rattle.std.proofs.Common.{Err, ap, ◌∙◌}
use Rattle.std.proofs.lemmas.Result.{err_from_is_err_and}
use Rattle.buffa_bytes.proofs.FullLemmas.{delimited_full}
use Rattle.buffa_recursive.proofs.DelimitedMergeLemmas.{inner_merged}
use Rattle.buffa_recursive.specs.Fixpoint.{semantics}
use Rattle.buffa_recursive.proofs.takes.merge_inner.Goals as goal

pub returns-clause-ok : goal.returns-clause-ok
returns-clause-ok g c =
    let w = semantics g.M.RecursiveType.COST g.M.RecursiveType.schema g.M.RecursiveType.sound in
    (inner_merged w.merged w.cost c.args.depth c.if-depth-eq0.false _ _ c.args.buf.now.now _ _ c.args.budget.now _ c.merge.result c.in_ok-bytes.ensures c.merge.ensures.merged).0

pub returns-clause-fault : goal.returns-clause-fault
returns-clause-fault g c =
    let w = semantics g.M.RecursiveType.COST g.M.RecursiveType.schema g.M.RecursiveType.sound in
    (inner_merged w.merged w.cost c.args.depth c.if-depth-eq0.false _ _ c.args.buf.now.now _ _ c.args.budget.now _ c.merge.result c.in_ok-bytes.ensures c.merge.ensures.merged).1

pub returns-clause-spent : goal.returns-clause-spent
returns-clause-spent g c =
    let w = semantics g.M.RecursiveType.COST g.M.RecursiveType.schema g.M.RecursiveType.sound in
    (inner_merged w.merged w.cost c.args.depth c.if-depth-eq0.false _ _ c.args.buf.now.now _ _ c.args.budget.now _ c.merge.result c.in_ok-bytes.ensures c.merge.ensures.merged).2

pub returns-in_err-bytes-clause-full : goal.returns-in_err-bytes-clause-full
returns-in_err-bytes-clause-full g c =
    let p = err_from_is_err_and c.from_residual.result c.from_residual.ensures.1 in
    rw (p.1, p.2) (λ full. absurd (delimited_full c.args.buf.now.now (c.in_err-bytes.ensures ∙ ap (λ z. Err z) full)))
