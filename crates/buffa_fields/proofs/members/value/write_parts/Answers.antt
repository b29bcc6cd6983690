use Rattle.std.proofs.Common.{◌≡◌, ◌∙◌, List, ℕ, subst}
use Rattle.std.proofs.lemmas.Result.{err_from_is_err_and}
use Rattle.buffa_bytes.proofs.SinkLemmas.{exits_first}
use Rattle.buffa_bytes.specs.declared.error.EncodeError.TheVariants.{OutOfMemory}
use Rattle.buffa_bytes.specs.Values.{tag_encoding}
use Rattle.buffa_bytes.specs.Written.{WritesFront}
use Rattle.buffa_fields.proofs.members.value.write_parts.Goals as goal

pub returns-in_err-encode : goal.returns-in_err-encode
returns-in_err-encode g c =
    let q = err_from_is_err_and c.from_residual.result c.from_residual.ensures.1 in
    let old = g.S.EncodeSink.written c.args.sink.now in
    let new = g.S.EncodeSink.written c.encode.new.sink in
    let tag : tag_encoding c.new.result.number c.new.result.wire_type ≡ tag_encoding c.args.number g.C.MapValueDecode.WIRE_TYPE =
    (λ i. tag_encoding (c.new.ensures.number i) ((c.new.ensures.wire_type ∙ c.WIRE_TYPE.ensures) i)) in
    let front = subst (λ (l : List ℕ). (c.in_err-encode.field-0.0 ≡ OutOfMemory) × WritesFront old l new) tag c.in_err-encode.ensures.writes in
    exits_first q.1 q.2 old (tag_encoding c.args.number g.C.MapValueDecode.WIRE_TYPE) (g.C.MapCodec.writing.encoding (g.C.Value.Blank.meaning c.args.value.now)) new front
