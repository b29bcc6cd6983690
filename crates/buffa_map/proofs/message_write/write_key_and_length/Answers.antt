use Rattle.std.proofs.Common.{◌++◌}
use Rattle.std.proofs.lemmas.Result.{err_from_is_err_and}
use Rattle.buffa_bytes.proofs.SinkLemmas.{exits_first}
use Rattle.buffa_bytes.specs.declared.wire_type.WireType.TheVariants.{LengthDelimited}
use Rattle.buffa_bytes.specs.Values.{tag_encoding}
use Rattle.buffa_bytes.specs.Varint.{varint_encoding}
use Rattle.buffa_map.proofs.message_write.write_key_and_length.Goals as goal

pub returns-in_err-write_part-clause-writes : goal.returns-in_err-write_part-clause-writes
returns-in_err-write_part-clause-writes g c =
    let p = err_from_is_err_and c.from_residual.result c.from_residual.ensures.1 in
    let kw = g.KC.MapCodec.writing in
    exits_first p.1 p.2 (g.S.EncodeSink.written c.args.sink.now) (tag_encoding 1 kw.wire ++ kw.encoding (g.KC.Value.Blank.meaning c.args.key.now)) (tag_encoding 2 LengthDelimited ++ varint_encoding c.args.inner) (g.S.EncodeSink.written c.write_part.new.sink) c.in_err-write_part.ensures.writes
