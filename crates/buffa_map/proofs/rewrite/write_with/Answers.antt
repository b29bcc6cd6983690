use Rattle.std.proofs.lemmas.Result.{err_from_is_err_and}
use Rattle.buffa_wire.specs.Encoding.{records_encoding}
use Rattle.buffa_bytes.proofs.ResultLemmas.{OnOk-always}
use Rattle.buffa_map.proofs.WriteLemmas.{no_room_for_both, rewrite_refused, rewrite_written, room_of_both}
use Rattle.buffa_map.proofs.rewrite.write_with.Goals as goal

pub returns-in_err-storage_write : goal.returns-in_err-storage_write
returns-in_err-storage_write g c =
    let q = err_from_is_err_and c.from_residual.result c.from_residual.ensures.1 in
    let w = c.in_err-storage_write.ensures in
    let old = g.S.EncodeSink.written c.args.sink.now in
    let new = g.S.EncodeSink.written c.storage_write.new.sink in
    record {
      walk = w.0;
      once = w.2;
      encoding = rewrite_refused g.KC.MapCodec.writing g.VC.MapCodec.writing c.args.number c.args.unknowns.now.records q.1 q.2 old new w.0 w.3;
      fits = rw q.1 tt;
      walks = w.1;
      room = no_room_for_both q.1 q.2 (g.S.EncodeSink.room c.args.sink.now) (g.S.EncodeSink.room c.storage_write.new.sink) _ (records_encoding c.args.unknowns.now.records) w.5;
    }

pub returns : goal.returns
returns g c =
    let w = c.in_ok-storage_write.ensures in
    let old = g.S.EncodeSink.written c.args.sink.now in
    let mid = g.S.EncodeSink.written c.storage_write.new.sink in
    let new = g.S.EncodeSink.written c.write_to.new.sink in
    record {
      walk = w.0;
      once = w.2;
      encoding = rewrite_written g.KC.MapCodec.writing g.VC.MapCodec.writing c.args.number c.args.unknowns.now.records c.write_to.result old mid new w.0 w.3.0 w.3.1 c.write_to.ensures.writes;
      fits = OnOk-always c.write_to.result w.4;
      walks = w.1;
      room = room_of_both c.write_to.result (g.S.EncodeSink.room c.args.sink.now) (g.S.EncodeSink.room c.storage_write.new.sink) (g.S.EncodeSink.room c.write_to.new.sink) _ (records_encoding c.args.unknowns.now.records) w.5 c.write_to.ensures.room;
    }
