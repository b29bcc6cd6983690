use Rattle.buffa_bytes.specs.Varint.{varint_encoding}
use Rattle.buffa_bytes.proofs.SinkLemmas.{Sent}
use Rattle.buffa_bytes.proofs.varint.encode_varint.Given as goal

abbrev pub invariant-loop-rest : goal.invariant-loop-rest
invariant-loop-rest g l = Sent (g.S.EncodeSink.written l.fn.sink) (g.S.EncodeSink.written l.sink) (g.S.EncodeSink.room l.fn.sink) (g.S.EncodeSink.room l.sink) (varint_encoding l.n) (varint_encoding l.rest)

abbrev pub decreases-loop-rest : goal.decreases-loop-rest
decreases-loop-rest g l = l.rest
