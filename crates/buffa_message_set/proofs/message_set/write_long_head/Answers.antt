use Rattle.std.proofs.Common.{[], ◌∷◌}
use Rattle.std.proofs.lemmas.Result.{err_from_is_err_and}
use Rattle.buffa_bytes.proofs.SinkLemmas.{exits_first, room_first, room_then, writes_then}
use Rattle.buffa_wire.proofs.ShortLemmas.{room_same, writes_same}
use Rattle.buffa_message_set.specs.Item.{id_and_length}
use Rattle.buffa_message_set.proofs.ItemEncodingLemmas.{two_tags}
use Rattle.buffa_message_set.proofs.message_set.write_long_head.Goals as goal

pub returns-in_err-put_slice-clause-writes : goal.returns-in_err-put_slice-clause-writes
returns-in_err-put_slice-clause-writes g c =
    let p = err_from_is_err_and c.from_residual.result c.from_residual.ensures.1 in
    let rest = id_and_length c.args.number c.args.len in
    writes_same _ _ _ _ _ (two_tags rest) (exits_first p.1 p.2 (g.S.EncodeSink.written c.args.sink.now) (11 ∷ 16 ∷ []) rest (g.S.EncodeSink.written c.put_slice.new.self) c.in_err-put_slice.ensures.writes)

pub returns-in_err-put_slice-clause-room : goal.returns-in_err-put_slice-clause-room
returns-in_err-put_slice-clause-room g c =
    let p = err_from_is_err_and c.from_residual.result c.from_residual.ensures.1 in
    let rest = id_and_length c.args.number c.args.len in
    room_same _ _ _ _ _ (two_tags rest) (room_first p.1 (g.S.EncodeSink.room c.args.sink.now) (g.S.EncodeSink.room c.put_slice.new.self) (11 ∷ 16 ∷ []) rest c.in_err-put_slice.ensures.room)

pub returns-clause-writes : goal.returns-clause-writes
returns-clause-writes g c =
    let rest = id_and_length c.args.number c.args.len in
    let w = g.S.EncodeSink.written in
    writes_same _ _ _ _ _ (two_tags rest) (writes_then c.write_id.result (w c.args.sink.now) (11 ∷ 16 ∷ []) rest (w c.put_slice.new.self) (w c.write_id.new.sink) c.in_ok-put_slice.ensures.writes c.write_id.ensures.writes)

pub returns-clause-room : goal.returns-clause-room
returns-clause-room g c =
    let rest = id_and_length c.args.number c.args.len in
    let r = g.S.EncodeSink.room in
    room_same _ _ _ _ _ (two_tags rest) (room_then c.write_id.result (r c.args.sink.now) (r c.put_slice.new.self) (r c.write_id.new.sink) (11 ∷ 16 ∷ []) rest c.in_ok-put_slice.ensures.room c.write_id.ensures.room)
