use Rattle.std.proofs.Common.{◌≡◌, subst}
use Rattle.std.proofs.lemmas.Result.{err_from_is_err_and}
use Rattle.buffa_bytes.proofs.SinkLemmas.{exits_first}
use Rattle.buffa_bytes.specs.declared.wire_type.WireType.TheVariants.{LengthDelimited}
use Rattle.buffa_bytes.specs.Values.{tag_encoding}
use Rattle.buffa_bytes.specs.Varint.{varint_encoding}
use Rattle.buffa_bytes.specs.Written.{WritesFront}
use Rattle.buffa_fields.proofs.members.message_field.write_head.Goals as goal

pub returns-in_err-encode : goal.returns-in_err-encode
returns-in_err-encode g c =
    let p = err_from_is_err_and c.from_residual.result c.from_residual.ensures.1 in
    let old = g.S.EncodeSink.written c.args.sink.now in
    let new = g.S.EncodeSink.written c.encode.new.sink in
    let same : tag_encoding c.new.result.number c.new.result.wire_type ≡ tag_encoding c.args.number LengthDelimited = (λ i. tag_encoding (c.new.ensures.number i) (c.new.ensures.wire_type i)) in
    exits_first p.1 p.2 old (tag_encoding c.args.number LengthDelimited) (varint_encoding c.args.inner) new (c.in_err-encode.ensures.writes.0, subst (λ z. WritesFront old z new) same c.in_err-encode.ensures.writes.1)
