use Rattle.std.proofs.Common.{refl}
use Rattle.std.proofs.lemmas.Result.{err_from_is_err_and}
use Rattle.buffa_bytes.specs.Varint.{varint_encoding}
use Rattle.buffa_bytes.proofs.SinkLemmas.{exits_first}
use Rattle.buffa_wire.proofs.ShortLemmas.{encoding_behind, encoding_one, encoding_two, encoding_three, writes_same, room_same}
use Rattle.buffa_wire.proofs.short.write_two.Goals as goal

pub returns-then-n-lt128-clause-writes : goal.returns-then-n-lt128-clause-writes
returns-then-n-lt128-clause-writes g c = writes_same _ _ _ _ _ (encoding_behind c.args.m c.args.n _ c.if-m-lt128.true (encoding_one c.args.n _ c.if-n-lt128.true refl)) c.put_slice.ensures.writes

pub returns-then-n-lt128-clause-room : goal.returns-then-n-lt128-clause-room
returns-then-n-lt128-clause-room g c = room_same _ _ _ _ _ (encoding_behind c.args.m c.args.n _ c.if-m-lt128.true (encoding_one c.args.n _ c.if-n-lt128.true refl)) c.put_slice.ensures.room

pub returns-then-n-lt16384-clause-writes : goal.returns-then-n-lt16384-clause-writes
returns-then-n-lt16384-clause-writes g c =
    writes_same _ _ _ _ _ (encoding_behind c.args.m c.args.n _ c.if-m-lt128.true (encoding_two c.args.n _ _ c.if-n-lt128.false c.if-n-lt16384.true refl refl)) c.put_slice-then-n-lt16384.ensures.writes

pub returns-then-n-lt16384-clause-room : goal.returns-then-n-lt16384-clause-room
returns-then-n-lt16384-clause-room g c =
    room_same _ _ _ _ _ (encoding_behind c.args.m c.args.n _ c.if-m-lt128.true (encoding_two c.args.n _ _ c.if-n-lt128.false c.if-n-lt16384.true refl refl)) c.put_slice-then-n-lt16384.ensures.room

pub returns-then-n-lt2097152-clause-writes : goal.returns-then-n-lt2097152-clause-writes
returns-then-n-lt2097152-clause-writes g c =
    writes_same _ _ _ _ _ (encoding_behind c.args.m c.args.n _ c.if-m-lt128.true (encoding_three c.args.n _ _ _ c.if-n-lt16384.false c.if-n-lt2097152.true refl refl refl)) c.put_slice-then-n-lt2097152.ensures.writes

pub returns-then-n-lt2097152-clause-room : goal.returns-then-n-lt2097152-clause-room
returns-then-n-lt2097152-clause-room g c =
    room_same _ _ _ _ _ (encoding_behind c.args.m c.args.n _ c.if-m-lt128.true (encoding_three c.args.n _ _ _ c.if-n-lt16384.false c.if-n-lt2097152.true refl refl refl)) c.put_slice-then-n-lt2097152.ensures.room

pub returns-in_err-encode_varint-clause-writes : goal.returns-in_err-encode_varint-clause-writes
returns-in_err-encode_varint-clause-writes g c =
    let p = err_from_is_err_and c.from_residual.result c.from_residual.ensures.1 in
    exits_first p.1 p.2 (g.S.EncodeSink.written c.args.sink.now) (varint_encoding c.args.m) (varint_encoding c.args.n) (g.S.EncodeSink.written c.encode_varint.new.sink) c.in_err-encode_varint.ensures.writes
