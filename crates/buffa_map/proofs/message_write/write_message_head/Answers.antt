use Rattle.std.proofs.Common.{◌++◌, subst}
use Rattle.std.proofs.lemmas.Result.{err_from_is_err_and}
use Rattle.buffa_bytes.proofs.SinkLemmas.{exits_first}
use Rattle.buffa_bytes.specs.declared.wire_type.WireType.TheVariants.{LengthDelimited}
use Rattle.buffa_bytes.specs.Values.{tag_encoding}
use Rattle.buffa_bytes.specs.Varint.{varint_encoding}
use Rattle.buffa_bytes.specs.Written.{WritesFront}
use Rattle.buffa_map.specs.MessageField.{entry_size, key_and_length}
use Rattle.buffa_map.specs.Encoding.{saturated}
use Rattle.buffa_map.proofs.message_write.write_message_head.Goals as goal

pub returns-in_err-write_head-clause-writes : goal.returns-in_err-write_head-clause-writes
returns-in_err-write_head-clause-writes g c =
    let p = err_from_is_err_and c.from_residual.result c.from_residual.ensures.1 in
    let kw = g.KC.MapCodec.writing in
    let k = g.KC.Value.Blank.meaning c.args.key.now in
    let old = g.S.EncodeSink.written c.args.sink.now in
    let new = g.S.EncodeSink.written c.write_head.new.sink in
    exits_first p.1 p.2 old (tag_encoding c.args.number LengthDelimited ++ varint_encoding (saturated (entry_size kw k c.args.inner))) (key_and_length kw k c.args.inner) new
    (c.in_err-write_head.ensures.writes.0, subst (λ n. WritesFront old (tag_encoding c.args.number LengthDelimited ++ varint_encoding n) new) c.message_entry_len.ensures c.in_err-write_head.ensures.writes.1)
