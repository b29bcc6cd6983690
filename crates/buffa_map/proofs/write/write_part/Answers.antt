use Rattle.std.proofs.Common.{◌≡◌, ◌+◌, ◌<◌, ◌≤◌, ◌++◌, ◌∙◌, ap, length, subst, sym}
use Rattle.std.proofs.lemmas.Result.{err_from_is_err_and}
use Rattle.buffa_bytes.proofs.SinkLemmas.{exits_first, room_first, room_then, writes_then}
use Rattle.buffa_bytes.specs.Values.{tag_encoding}
use Rattle.buffa_bytes.specs.Written.{WritesFront}
use Rattle.buffa_map.proofs.write.write_part.Goals as goal

pub returns-in_err-encode-clause-writes : goal.returns-in_err-encode-clause-writes
returns-in_err-encode-clause-writes g c =
    let p = err_from_is_err_and c.from_residual.result c.from_residual.ensures.1 in
    let old = g.S.EncodeSink.written c.args.sink.now in
    let new = g.S.EncodeSink.written c.encode.new.sink in
    let same : tag_encoding c.new.result.number c.new.result.wire_type ≡ tag_encoding c.args.number g.VC.MapCodec.writing.wire =
    (λ i. tag_encoding (c.new.ensures.number i) ((c.new.ensures.wire_type ∙ c.WIRE_TYPE.ensures ∙ sym g.met.VC.MapCodec.written_wire) i)) in
    exits_first p.1 p.2 old (tag_encoding c.args.number g.VC.MapCodec.writing.wire) (g.VC.MapCodec.writing.encoding (g.VC.Value.Blank.meaning c.args.value.now)) new (c.in_err-encode.ensures.writes.0, subst (λ z. WritesFront old z new) same c.in_err-encode.ensures.writes.1)

pub returns-clause-writes : goal.returns-clause-writes
returns-clause-writes g c =
    let old = g.S.EncodeSink.written c.args.sink.now in
    let same : tag_encoding c.new.result.number c.new.result.wire_type ≡ tag_encoding c.args.number g.VC.MapCodec.writing.wire =
    (λ i. tag_encoding (c.new.ensures.number i) ((c.new.ensures.wire_type ∙ c.WIRE_TYPE.ensures ∙ sym g.met.VC.MapCodec.written_wire) i)) in
    writes_then c.encode-2.result old (tag_encoding c.args.number g.VC.MapCodec.writing.wire) (g.VC.MapCodec.writing.encoding (g.VC.Value.Blank.meaning c.args.value.now)) (g.S.EncodeSink.written c.encode.new.sink) (g.S.EncodeSink.written c.encode-2.new.sink)
    (c.in_ok-encode.ensures.writes ∙ ap (λ z. old ++ z) same) c.encode-2.ensures.writes

pub returns-in_err-encode-clause-room : goal.returns-in_err-encode-clause-room
returns-in_err-encode-clause-room g c =
    let p = err_from_is_err_and c.from_residual.result c.from_residual.ensures.1 in
    let old = g.S.EncodeSink.room c.args.sink.now in
    let same : tag_encoding c.new.result.number c.new.result.wire_type ≡ tag_encoding c.args.number g.VC.MapCodec.writing.wire =
    (λ i. tag_encoding (c.new.ensures.number i) ((c.new.ensures.wire_type ∙ c.WIRE_TYPE.ensures ∙ sym g.met.VC.MapCodec.written_wire) i)) in
    room_first p.1 old (g.S.EncodeSink.room c.encode.new.sink) (tag_encoding c.args.number g.VC.MapCodec.writing.wire) (g.VC.MapCodec.writing.encoding (g.VC.Value.Blank.meaning c.args.value.now)) (subst (λ z. old < length z) same c.in_err-encode.ensures.room)

pub returns-clause-room : goal.returns-clause-room
returns-clause-room g c =
    let old = g.S.EncodeSink.room c.args.sink.now in
    let mid = g.S.EncodeSink.room c.encode.new.sink in
    let same : tag_encoding c.new.result.number c.new.result.wire_type ≡ tag_encoding c.args.number g.VC.MapCodec.writing.wire =
    (λ i. tag_encoding (c.new.ensures.number i) ((c.new.ensures.wire_type ∙ c.WIRE_TYPE.ensures ∙ sym g.met.VC.MapCodec.written_wire) i)) in
    room_then c.encode-2.result old mid (g.S.EncodeSink.room c.encode-2.new.sink) (tag_encoding c.args.number g.VC.MapCodec.writing.wire) (g.VC.MapCodec.writing.encoding (g.VC.Value.Blank.meaning c.args.value.now))
    (subst (λ z. old ≤ mid + length z) same c.in_ok-encode.ensures.room) c.encode-2.ensures.room
