use Rattle.std.proofs.Common.{length}
use Rattle.std.proofs.lemmas.Result.{err_from_is_err_and}
use Rattle.buffa_map.specs.Encoding.{entry_encoding}
use Rattle.buffa_map.proofs.SizeLemmas.{as_u64-some}
use Rattle.buffa_map.proofs.WriteLemmas.{entry_room, entry_written, head_no_room, head_refused}
use Rattle.buffa_map.proofs.write.write_record.Goals as goal

pub returns-in_err-write_head-clause-written : goal.returns-in_err-write_head-clause-written
returns-in_err-write_head-clause-written g c =
    let p = err_from_is_err_and c.from_residual.result c.from_residual.ensures.1 in
    let key = g.KC.MapCodec.writing in
    let val = g.VC.MapCodec.writing in
    let pair : g.row.KC-Value-Meaning.Denot × g.row.VC-Value-Meaning.Denot = (g.KC.Value.Blank.meaning c.args.key.now, g.VC.Value.Blank.meaning c.args.value.now) in
    let size = as_u64-some (length (entry_encoding key val pair)) c.in-Some.len c.in-Some.ensures.len in
    head_refused key val c.args.number p.1 p.2 (g.S.EncodeSink.written c.args.sink.now) (g.S.EncodeSink.written c.write_head.new.sink) pair c.in-Some.len size.0 size.1 c.in_err-write_head.ensures.writes

pub returns-clause-written : goal.returns-clause-written
returns-clause-written g c =
    let key = g.KC.MapCodec.writing in
    let val = g.VC.MapCodec.writing in
    let pair : g.row.KC-Value-Meaning.Denot × g.row.VC-Value-Meaning.Denot = (g.KC.Value.Blank.meaning c.args.key.now, g.VC.Value.Blank.meaning c.args.value.now) in
    let size = as_u64-some (length (entry_encoding key val pair)) c.in-Some.len c.in-Some.ensures.len in
    entry_written key val c.args.number c.write_entry.result (g.S.EncodeSink.written c.args.sink.now) (g.S.EncodeSink.written c.write_head.new.sink) (g.S.EncodeSink.written c.write_entry.new.sink) pair c.in-Some.len size.0 size.1 c.in_ok-write_head.ensures.writes c.write_entry.ensures.writes

pub returns-in_err-write_head-clause-room : goal.returns-in_err-write_head-clause-room
returns-in_err-write_head-clause-room g c =
    let p = err_from_is_err_and c.from_residual.result c.from_residual.ensures.1 in
    let key = g.KC.MapCodec.writing in
    let val = g.VC.MapCodec.writing in
    let pair : g.row.KC-Value-Meaning.Denot × g.row.VC-Value-Meaning.Denot = (g.KC.Value.Blank.meaning c.args.key.now, g.VC.Value.Blank.meaning c.args.value.now) in
    let size = as_u64-some (length (entry_encoding key val pair)) c.in-Some.len c.in-Some.ensures.len in
    head_no_room key val c.args.number p.1 (g.S.EncodeSink.room c.args.sink.now) (g.S.EncodeSink.room c.write_head.new.sink) pair c.in-Some.len size.0 c.in_err-write_head.ensures.room

pub returns-clause-room : goal.returns-clause-room
returns-clause-room g c =
    let key = g.KC.MapCodec.writing in
    let val = g.VC.MapCodec.writing in
    let pair : g.row.KC-Value-Meaning.Denot × g.row.VC-Value-Meaning.Denot = (g.KC.Value.Blank.meaning c.args.key.now, g.VC.Value.Blank.meaning c.args.value.now) in
    let size = as_u64-some (length (entry_encoding key val pair)) c.in-Some.len c.in-Some.ensures.len in
    entry_room key val c.args.number c.write_entry.result (g.S.EncodeSink.room c.args.sink.now) (g.S.EncodeSink.room c.write_head.new.sink) (g.S.EncodeSink.room c.write_entry.new.sink) pair c.in-Some.len size.0 c.in_ok-write_head.ensures.room c.write_entry.ensures.room
