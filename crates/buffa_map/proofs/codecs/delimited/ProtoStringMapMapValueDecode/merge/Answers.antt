use Rattle.buffa_bytes.specs.Readings.{delimited_at}
use Rattle.buffa_map.proofs.MessageLemmas.{payload_value_of}
use Rattle.buffa_map.proofs.codecs.delimited.ProtoStringMapMapValueDecode.merge.Goals as goal

pub returns-in_err-value-clause-empty : goal.returns-in_err-value-clause-empty
returns-in_err-value-clause-empty g c h =
    let read = c.in_err-value.ensures.free h.2 (payload_value_of h.2 (delimited_at (g.B.Buf.unread c.args.buf.now)) h.3) in
    absurd (let no : ⊥ = cc in no)
