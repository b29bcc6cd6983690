use Rattle.std.proofs.lemmas.Result.{err_from_is_err_and}
use Rattle.buffa_map.proofs.MemoryLemmas.{int32_no_full}
use Rattle.buffa_map.proofs.codecs.enums.ClosedEnumMapValueDecode.merge.Goals as goal

pub returns-in_err-number-clause-full : goal.returns-in_err-number-clause-full
returns-in_err-number-clause-full g c =
    let p = err_from_is_err_and c.from_residual.result c.from_residual.ensures.1 in
    rw (p.1, p.2) (int32_no_full (g.B.Buf.unread c.args.buf.now) _ c.in_err-number.ensures.reads)
