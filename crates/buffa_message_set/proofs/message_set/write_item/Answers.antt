use Rattle.std.proofs.lemmas.Result.{err_from_is_err_and}
use Rattle.buffa_bytes.proofs.SinkLemmas.{exits_first, room_first, room_then, writes_then}
use Rattle.buffa_wire.proofs.ShortLemmas.{room_same, writes_same}
use Rattle.buffa_message_set.proofs.ItemEncodingLemmas.{head_then}
use Rattle.buffa_message_set.proofs.message_set.write_item.Goals as goal

pub returns-in_err-write_head-clause-writes : goal.returns-in_err-write_head-clause-writes
returns-in_err-write_head-clause-writes g c =
    let p = err_from_is_err_and c.from_residual.result c.from_residual.ensures.1 in
    writes_same _ _ _ _ _ (head_then c.args.number c.args.payload.now) (exits_first p.1 p.2 _ _ _ _ c.in_err-write_head.ensures.writes)

pub returns-in_err-write_head-clause-room : goal.returns-in_err-write_head-clause-room
returns-in_err-write_head-clause-room g c =
    let p = err_from_is_err_and c.from_residual.result c.from_residual.ensures.1 in
    room_same _ _ _ _ _ (head_then c.args.number c.args.payload.now) (room_first p.1 _ _ _ _ c.in_err-write_head.ensures.room)

pub returns-clause-writes : goal.returns-clause-writes
returns-clause-writes g c =
    writes_same _ _ _ _ _ (head_then c.args.number c.args.payload.now) (writes_then _ _ _ _ _ _ c.in_ok-write_head.ensures.writes c.write_rest.ensures.writes)

pub returns-clause-room : goal.returns-clause-room
returns-clause-room g c =
    room_same _ _ _ _ _ (head_then c.args.number c.args.payload.now) (room_then _ _ _ _ _ _ c.in_ok-write_head.ensures.room c.write_rest.ensures.room)
