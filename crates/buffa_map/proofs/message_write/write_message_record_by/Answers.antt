use Rattle.std.proofs.Common.{◌∙◌, length, refl, subst, sym, [], ◌∷◌}
use Rattle.std.proofs.lemmas.Result.{err_from_is_err_and}
use Rattle.buffa_wire.specs.Passes.{IsNext, cap}
use Rattle.buffa_wire.proofs.PassLemmas.{next_ok, next_rest, written_err}
use Rattle.buffa_map.specs.MessageField.{IsSmallPair}
use Rattle.buffa_map.specs.Scalars.{delimited_writing}
use Rattle.buffa_map.specs.Encoding.{record_encoding}
use Rattle.buffa_map.proofs.MessageFieldLemmas.{head_no_room, head_short, record_room, record_written}
use Rattle.buffa_map.proofs.message_write.write_message_record_by.Goals as goal

pub returns-in_err-write_message_head-clause-written : goal.returns-in_err-write_message_head-clause-written
returns-in_err-write_message_head-clause-written g c =
    let q = err_from_is_err_and c.from_residual.result c.from_residual.ensures.1 in
    let kw = g.KC.MapCodec.writing in
    let encoding = g.M.MessageSpec.encoding in
    let slots = g.M.MessageSpec.slots in
    let p : g.row.KC-Value-Meaning.Denot × g.row.M-Meaning.Denot = (g.KC.Value.Blank.meaning c.args.key.now, g.M.Blank.meaning c.args.value.now) in
    let slot = cap (length (encoding p.1)) in
    let n = next_ok slot (slots p.1) c.args.cache.now c.requires.next in
    written_err (IsSmallPair kw encoding p) (record_encoding kw (delimited_writing encoding) c.args.number p) (slot ∷ slots p.1) c.args.cache.now c.consume_next-inner.new.self (g.S.EncodeSink.written c.args.sink.now) (g.S.EncodeSink.written c.write_message_head.new.sink) c.from_residual.result _ _ q.1 q.2
    (head_short kw encoding slots c.args.number p c.consume_next-inner.result c.args.cache.now c.consume_next-inner.new.self c.consume_next-inner.new.self (g.S.EncodeSink.written c.args.sink.now) (g.S.EncodeSink.written c.write_message_head.new.sink) (g.S.EncodeSink.written c.write_message_head.new.sink) (c.consume_next-inner.ensures.size ∙ n.1) c.consume_next-inner.ensures.rest _ c.in_err-write_message_head.ensures.writes)

pub returns-clause-written : goal.returns-clause-written
returns-clause-written g c =
    let kw = g.KC.MapCodec.writing in
    let encoding = g.M.MessageSpec.encoding in
    let slots = g.M.MessageSpec.slots in
    let p : g.row.KC-Value-Meaning.Denot × g.row.M-Meaning.Denot = (g.KC.Value.Blank.meaning c.args.key.now, g.M.Blank.meaning c.args.value.now) in
    let slot = cap (length (encoding p.1)) in
    let n = next_ok slot (slots p.1) c.args.cache.now c.requires.next in
    let v = c.requires.keeps _ _ _ _ _ _ refl c.write.ensures in
    record_written kw encoding slots c.args.number p c.consume_next-inner.result c.args.cache.now c.consume_next-inner.new.self c.write.new.arg3 (g.S.EncodeSink.written c.args.sink.now) (g.S.EncodeSink.written c.write_message_head.new.sink) (g.S.EncodeSink.written c.write.new.arg4) (c.consume_next-inner.ensures.size ∙ n.1) c.consume_next-inner.ensures.rest _ c.in_ok-write_message_head.ensures.writes v

pub write-requires : goal.write-requires
write-requires g c =
    let slots = g.M.MessageSpec.slots in
    let m = g.M.Blank.meaning c.args.value.now in
    c.requires.may _ _ _ refl (subst (IsNext (slots m)) (sym c.consume_next-inner.ensures.rest) (next_rest _ (slots m) c.args.cache.now c.requires.next))

pub returns-in_err-write_message_head-clause-room : goal.returns-in_err-write_message_head-clause-room
returns-in_err-write_message_head-clause-room g c keeps =
    let q = err_from_is_err_and c.from_residual.result c.from_residual.ensures.1 in
    let encoding = g.M.MessageSpec.encoding in
    let slots = g.M.MessageSpec.slots in
    let p : g.row.KC-Value-Meaning.Denot × g.row.M-Meaning.Denot = (g.KC.Value.Blank.meaning c.args.key.now, g.M.Blank.meaning c.args.value.now) in
    let n = next_ok (cap (length (encoding p.1))) (slots p.1) c.args.cache.now c.requires.next in
    head_no_room g.KC.MapCodec.writing encoding slots c.args.number p c.consume_next-inner.result c.args.cache.now c.consume_next-inner.new.self c.consume_next-inner.new.self [] [] []
    (c.consume_next-inner.ensures.size ∙ n.1) c.consume_next-inner.ensures.rest q.1 (g.S.EncodeSink.room c.args.sink.now) (g.S.EncodeSink.room c.write_message_head.new.sink) c.in_err-write_message_head.ensures.room

pub returns-clause-room : goal.returns-clause-room
returns-clause-room g c keeps =
    let encoding = g.M.MessageSpec.encoding in
    let slots = g.M.MessageSpec.slots in
    let p : g.row.KC-Value-Meaning.Denot × g.row.M-Meaning.Denot = (g.KC.Value.Blank.meaning c.args.key.now, g.M.Blank.meaning c.args.value.now) in
    let n = next_ok (cap (length (encoding p.1))) (slots p.1) c.args.cache.now c.requires.next in
    record_room g.KC.MapCodec.writing encoding slots c.args.number p c.consume_next-inner.result c.args.cache.now c.consume_next-inner.new.self c.consume_next-inner.new.self [] [] []
    (c.consume_next-inner.ensures.size ∙ n.1) c.consume_next-inner.ensures.rest c.write.result (g.S.EncodeSink.room c.args.sink.now) (g.S.EncodeSink.room c.write_message_head.new.sink) (g.S.EncodeSink.room c.write.new.arg4)
    c.in_ok-write_message_head.ensures.room (keeps _ _ _ _ _ _ c.write.ensures)
