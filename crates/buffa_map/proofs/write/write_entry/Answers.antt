use Rattle.std.proofs.Common.{◌++◌}
use Rattle.std.proofs.lemmas.Result.{err_from_is_err_and}
use Rattle.buffa_bytes.proofs.SinkLemmas.{exits_first, room_first}
use Rattle.buffa_bytes.specs.Values.{tag_encoding}
use Rattle.buffa_map.proofs.write.write_entry.Goals as goal

pub returns-in_err-write_part-clause-writes : goal.returns-in_err-write_part-clause-writes
returns-in_err-write_part-clause-writes g c =
    let p = err_from_is_err_and c.from_residual.result c.from_residual.ensures.1 in
    let kw = g.KC.MapCodec.writing in
    let vw = g.VC.MapCodec.writing in
    exits_first p.1 p.2 (g.S.EncodeSink.written c.args.sink.now) (tag_encoding 1 kw.wire ++ kw.encoding (g.KC.Value.Blank.meaning c.args.key.now)) (tag_encoding 2 vw.wire ++ vw.encoding (g.VC.Value.Blank.meaning c.args.value.now)) (g.S.EncodeSink.written c.write_part.new.sink) c.in_err-write_part.ensures.writes

pub returns-in_err-write_part-clause-room : goal.returns-in_err-write_part-clause-room
returns-in_err-write_part-clause-room g c =
    let p = err_from_is_err_and c.from_residual.result c.from_residual.ensures.1 in
    let kw = g.KC.MapCodec.writing in
    let vw = g.VC.MapCodec.writing in
    room_first p.1 (g.S.EncodeSink.room c.args.sink.now) (g.S.EncodeSink.room c.write_part.new.sink) (tag_encoding 1 kw.wire ++ kw.encoding (g.KC.Value.Blank.meaning c.args.key.now)) (tag_encoding 2 vw.wire ++ vw.encoding (g.VC.Value.Blank.meaning c.args.value.now)) c.in_err-write_part.ensures.room
