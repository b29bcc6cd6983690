use Rattle.std.proofs.lemmas.Result.{err_from_is_err_and}
use Rattle.buffa_frames.proofs.DelimitedLemmas.{unwritten_length, unwritten_none, unwritten_rest}
use Rattle.buffa_frames.proofs.delimited.Delimited.try_encode_length_delimited.Goals as goal

pub returns-in_err-size-clause-err : goal.returns-in_err-size-clause-err
returns-in_err-size-clause-err g c =
    let p = err_from_is_err_and c.from_residual.result c.from_residual.ensures.1 in
    unwritten_none p.1 p.2 (g.Self.MessageSpec.encoding (g.Self.Blank.meaning c.args.self.now)) (g.S.EncodeSink.written c.args.sink.now) c.in_err-size.ensures.0

pub returns-in_err-encode_varint-clause-err : goal.returns-in_err-encode_varint-clause-err
returns-in_err-encode_varint-clause-err g c =
    let p = err_from_is_err_and c.from_residual-in_err-encode_varint.result c.from_residual-in_err-encode_varint.ensures.1 in
    unwritten_length p.1 p.2 (g.Self.MessageSpec.encoding (g.Self.Blank.meaning c.args.self.now)) (g.S.EncodeSink.written c.args.sink.now) (g.S.EncodeSink.written c.encode_varint.new.sink)
    c.in_ok-size.size c.from.result c.in_ok-size.ensures.0 c.if-size-gt-MAX_MESSAGE_BYTES.false c.from.ensures c.in_err-encode_varint.ensures.writes

pub returns-clause-err : goal.returns-clause-err
returns-clause-err g c =
    unwritten_rest c.write_to.result (g.Self.MessageSpec.encoding (g.Self.Blank.meaning c.args.self.now)) _ (g.S.EncodeSink.written c.args.sink.now) (g.S.EncodeSink.written c.encode_varint.new.sink) _ _ _
    c.in_ok-size.size c.from.result c.in_ok-size.ensures.0 c.if-size-gt-MAX_MESSAGE_BYTES.false c.from.ensures c.in_ok-encode_varint.ensures.writes c.write_to.ensures
