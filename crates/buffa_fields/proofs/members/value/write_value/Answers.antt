use Rattle.std.proofs.Common.{◌∙◌, ◌++◌, List, ℕ, ap, append-nil, subst, sym}
use Rattle.buffa_wire.specs.Encoding.{tagged_encoding}
use Rattle.buffa_bytes.specs.Values.{tag_encoding}
use Rattle.buffa_bytes.specs.Written.{Writes}
use Rattle.buffa_fields.proofs.members.value.write_value.Goals as goal

pub returns : goal.returns
returns g c =
    let v = g.C.Value.Blank.meaning c.args.value.now in
    let n = c.args.number in
    let encoding = g.C.MapCodec.writing.encoding v in
    let is = ap (λ w. tag_encoding n w ++ encoding) (sym g.met.C.MapCodec.written_wire) ∙ g.met.C.ProtoType.field_data_encoding n v ∙ sym (append-nil (tagged_encoding n (g.C.ProtoType.field_data v))) in
    subst (λ (l : List ℕ). Writes c.write_parts.result (g.S.EncodeSink.written c.args.sink.now) l (g.S.EncodeSink.written c.write_parts.new.sink)) is c.write_parts.ensures
