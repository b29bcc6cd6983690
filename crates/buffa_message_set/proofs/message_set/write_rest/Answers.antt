use Rattle.std.proofs.Common.{arith, sym}
use Rattle.std.proofs.lemmas.Result.{err_from_is_err_and}
use Rattle.buffa_bytes.proofs.SinkLemmas.{exits_first, room_then, writes_then}
use Rattle.buffa_bytes.proofs.ShortestLemmas.{varint_encoding-last}
use Rattle.buffa_wire.proofs.ShortLemmas.{room_same, writes_same}
use Rattle.buffa_message_set.proofs.message_set.write_rest.Goals as goal

pub returns-in_err-put_slice-clause-writes : goal.returns-in_err-put_slice-clause-writes
returns-in_err-put_slice-clause-writes g c =
    let p = err_from_is_err_and c.from_residual.result c.from_residual.ensures.1 in
    exits_first p.1 p.2 _ _ _ _ c.in_err-put_slice.ensures.writes

pub returns-clause-writes : goal.returns-clause-writes
returns-clause-writes g c =
    writes_then _ _ _ _ _ _ c.in_ok-put_slice.ensures.writes (writes_same _ _ _ _ _ (sym (varint_encoding-last 12 (omega arith))) c.put_byte.ensures.writes)

pub returns-clause-room : goal.returns-clause-room
returns-clause-room g c =
    room_then _ _ _ _ _ _ c.in_ok-put_slice.ensures.room (room_same _ _ _ _ _ (sym (varint_encoding-last 12 (omega arith))) c.put_byte.ensures.room)
