use Rattle.std.proofs.Common.{length}
use Rattle.std.proofs.lemmas.Result.{err_from_is_err_and}
use Rattle.buffa_bytes.specs.Varint.{varint_encoding}
use Rattle.buffa_bytes.proofs.SinkLemmas.{exits_first, room_first}
use Rattle.buffa_bytes.proofs.types.delimited.encode_bytes.Goals as goal

pub returns-in_err-encode_varint-clause-writes : goal.returns-in_err-encode_varint-clause-writes
returns-in_err-encode_varint-clause-writes g c =
    let p = err_from_is_err_and c.from_residual.result c.from_residual.ensures.1 in
    exits_first p.1 p.2 (g.S.EncodeSink.written c.args.sink.now) (varint_encoding (length c.args.value.now)) c.args.value.now (g.S.EncodeSink.written c.encode_varint.new.sink) c.in_err-encode_varint.ensures.writes

pub returns-in_err-encode_varint-clause-room : goal.returns-in_err-encode_varint-clause-room
returns-in_err-encode_varint-clause-room g c =
    let p = err_from_is_err_and c.from_residual.result c.from_residual.ensures.1 in
    room_first p.1 (g.S.EncodeSink.room c.args.sink.now) (g.S.EncodeSink.room c.encode_varint.new.sink) (varint_encoding (length c.args.value.now)) c.args.value.now c.in_err-encode_varint.ensures.room
