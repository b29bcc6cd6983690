use Rattle.std.proofs.lemmas.Result.{err_from_is_err_and}
use Rattle.buffa_bytes.proofs.SinkLemmas.{exits_first}
use Rattle.buffa_bytes.specs.Scalars.{fixed32_encoding}
use Rattle.buffa_bytes.specs.Varint.{varint_encoding}
use Rattle.buffa_wire.proofs.ShortLemmas.{four_behind, writes_same, room_same}
use Rattle.buffa_wire.proofs.short.write_fixed32.Goals as goal

pub returns-then-m-lt128-clause-writes : goal.returns-then-m-lt128-clause-writes
returns-then-m-lt128-clause-writes g c = writes_same _ _ _ _ _ (four_behind c.args.m c.args.value c.to_le_bytes.result c.if-m-lt128.true c.to_le_bytes.ensures) c.put_slice.ensures.writes

pub returns-then-m-lt128-clause-room : goal.returns-then-m-lt128-clause-room
returns-then-m-lt128-clause-room g c = room_same _ _ _ _ _ (four_behind c.args.m c.args.value c.to_le_bytes.result c.if-m-lt128.true c.to_le_bytes.ensures) c.put_slice.ensures.room

pub returns-in_err-encode_varint-clause-writes : goal.returns-in_err-encode_varint-clause-writes
returns-in_err-encode_varint-clause-writes g c =
    let p = err_from_is_err_and c.from_residual.result c.from_residual.ensures.1 in
    exits_first p.1 p.2 (g.S.EncodeSink.written c.args.sink.now) (varint_encoding c.args.m) (fixed32_encoding c.args.value) (g.S.EncodeSink.written c.encode_varint.new.sink) c.in_err-encode_varint.ensures.writes
