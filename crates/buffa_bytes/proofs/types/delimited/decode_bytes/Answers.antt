use Rattle.std.proofs.lemmas.Result.{err_from_is_err_and}
use Rattle.buffa_bytes.proofs.UnreadLemmas.{left_copied, left_no_length}
use Rattle.buffa_bytes.proofs.OwnLemmas.{length_no_full, none_taken}
use Rattle.buffa_bytes.proofs.types.delimited.decode_bytes.Goals as goal

pub returns-in_err-len-clause-full : goal.returns-in_err-len-clause-full
returns-in_err-len-clause-full g c =
    let p = err_from_is_err_and c.from_residual.result c.from_residual.ensures.1 in
    length_no_full p.1 p.2 (g.B.Buf.unread c.args.buf.now) c.in_err-len.ensures.reads

pub returns-clause-free : goal.returns-clause-free
returns-clause-free g c = λ rest is. c.copy_bytes.ensures.free (none_taken _ _ _ rest c.in_ok-len.ensures.reads is)

pub returns-in_err-len-clause-left : goal.returns-in_err-len-clause-left
returns-in_err-len-clause-left g c =
    let p = err_from_is_err_and c.from_residual.result c.from_residual.ensures.1 in
    left_no_length p.1 p.2 (g.B.Buf.unread c.args.buf.now) _ c.in_err-len.ensures.reads c.in_err-len.ensures.left

pub returns-clause-left : goal.returns-clause-left
returns-clause-left g c =
    left_copied _ c.copy_bytes.result _ (g.B.Buf.unread c.args.buf.now) _ _ c.in_ok-len.ensures.reads c.copy_bytes.ensures.reads c.copy_bytes.ensures.short c.copy_bytes.ensures.within
