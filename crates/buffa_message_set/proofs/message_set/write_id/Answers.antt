use Rattle.std.proofs.Common.{◌++◌}
use Rattle.std.proofs.lemmas.Result.{err_from_is_err_and}
use Rattle.buffa_bytes.proofs.SinkLemmas.{exits_first, room_first, room_then, writes_then}
use Rattle.buffa_bytes.specs.declared.wire_type.WireType.TheVariants.{LengthDelimited}
use Rattle.buffa_bytes.specs.Values.{tag_encoding}
use Rattle.buffa_bytes.specs.Varint.{varint_encoding}
use Rattle.buffa_message_set.proofs.message_set.write_id.Goals as goal

pub returns-in_err-encode_uint32-clause-writes : goal.returns-in_err-encode_uint32-clause-writes
returns-in_err-encode_uint32-clause-writes g c =
    let p = err_from_is_err_and c.from_residual.result c.from_residual.ensures.1 in
    exits_first p.1 p.2 _ _ _ _ c.in_err-encode_uint32.ensures.writes

pub returns-in_err-encode_uint32-clause-room : goal.returns-in_err-encode_uint32-clause-room
returns-in_err-encode_uint32-clause-room g c =
    let p = err_from_is_err_and c.from_residual.result c.from_residual.ensures.1 in
    room_first p.1 _ _ _ _ c.in_err-encode_uint32.ensures.room

pub returns-in_err-encode_varint-clause-writes : goal.returns-in_err-encode_varint-clause-writes
returns-in_err-encode_varint-clause-writes g c =
    let p = err_from_is_err_and c.from_residual-in_err-encode_varint.result c.from_residual-in_err-encode_varint.ensures.1 in
    writes_then _ _ _ _ _ _ c.in_ok-encode_uint32.ensures.writes (exits_first p.1 p.2 _ _ _ _ c.in_err-encode_varint.ensures.writes)

pub returns-in_err-encode_varint-clause-room : goal.returns-in_err-encode_varint-clause-room
returns-in_err-encode_varint-clause-room g c =
    let p = err_from_is_err_and c.from_residual-in_err-encode_varint.result c.from_residual-in_err-encode_varint.ensures.1 in
    room_then _ _ _ _ _ _ c.in_ok-encode_uint32.ensures.room (room_first p.1 _ _ _ _ c.in_err-encode_varint.ensures.room)

pub returns-clause-writes : goal.returns-clause-writes
returns-clause-writes g c =
    let w = g.S.EncodeSink.written in
    let tag = tag_encoding 3 LengthDelimited in
    let len = varint_encoding c.args.len in
    writes_then c.encode_varint-2.result (w c.args.sink.now) (varint_encoding c.args.number) (tag ++ len) (w c.encode_uint32.new.sink) _ c.in_ok-encode_uint32.ensures.writes
    (writes_then c.encode_varint-2.result (w c.encode_uint32.new.sink) tag len (w c.encode_varint.new.sink) _ c.in_ok-encode_varint.ensures.writes c.encode_varint-2.ensures.writes)

pub returns-clause-room : goal.returns-clause-room
returns-clause-room g c =
    room_then _ _ _ _ _ _ c.in_ok-encode_uint32.ensures.room (room_then _ _ _ _ _ _ c.in_ok-encode_varint.ensures.room c.encode_varint-2.ensures.room)
