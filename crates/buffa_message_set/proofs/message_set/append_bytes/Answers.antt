use Rattle.std.proofs.lemmas.Result.{err_from_is_err_and}
use Rattle.buffa_message_set.proofs.ItemLemmas.{part_appended, part_there}
use Rattle.buffa_message_set.proofs.message_set.append_bytes.Goals as goal

pub returns-in_err-extend-clause-full : goal.returns-in_err-extend-clause-full
returns-in_err-extend-clause-full g c =
    let p = err_from_is_err_and c.from_residual.result c.from_residual.ensures.1 in
    rw (p.1, p.2) (λ k. part_there _ _ _ c.in-Some.ensures)

pub returns-in-Some-clause-reads : goal.returns-in-Some-clause-reads
returns-in-Some-clause-reads g c =
    λ bs v. rw c.in_ok-extend.ensures (part_appended _ _ _ _ _ _ v c.in-Some.ensures c.advance.ensures.rest)
