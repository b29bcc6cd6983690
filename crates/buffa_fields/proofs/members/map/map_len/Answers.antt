use Rattle.std.proofs.Common.{◌∙◌}
use Rattle.buffa_fields.proofs.MapLemmas.{map_capped}
use Rattle.buffa_fields.proofs.members.map.map_len.Goals as goal

pub returns : goal.returns
returns g c =
    let w = c.field_len-total.ensures in
    let tag = rw (c.new.ensures.number, c.new.ensures.wire_type) at c.encoded_len-tag.ensures in
    c.capped.ensures ∙ map_capped g.KC.MapCodec.writing g.VC.MapCodec.writing c.size_is_length.ensures c.args.number c.encoded_len-tag.result c.field_len-total.result
    w.0 (g.C.StableOrder.walk c.args.map.now) (g.met.C.StableOrder.stable c.args.map.now w.0 w.1) tag w.3
