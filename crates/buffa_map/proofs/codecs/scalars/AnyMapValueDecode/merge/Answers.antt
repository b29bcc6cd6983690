use Rattle.std.proofs.lemmas.Result.{err_from_is_err_and}
use Rattle.buffa_bytes.proofs.FullLemmas.{payload_value_no_full}
use Rattle.buffa_map.proofs.codecs.scalars.AnyMapValueDecode.merge.Goals as goal

pub returns-in_err-read-clause-full : goal.returns-in_err-read-clause-full
returns-in_err-read-clause-full g c =
    let p = err_from_is_err_and c.from_residual.result c.from_residual.ensures.1 in
    rw (p.1, p.2) (payload_value_no_full g.N.Form.Form.WIRE_TYPE (g.B.Buf.unread c.args.buf.now) _ c.in_err-read.ensures.reads)
