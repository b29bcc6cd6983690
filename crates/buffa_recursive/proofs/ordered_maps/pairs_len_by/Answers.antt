use Rattle.std.proofs.lemmas.Result.{err_from_is_err_and}
use Rattle.buffa_map.specs.Pairs.{means}
use Rattle.buffa_fields.proofs.MapOfMessagesLemmas.{none_sized, pairs_sized, pairs_unsized}
use Rattle.buffa_recursive.proofs.ordered_maps.pairs_len_by.Goals as goal

pub returns-clause-sized : goal.returns-clause-sized
returns-clause-sized g c =
    let tag = rw (c.new.ensures.number, c.new.ensures.wire_type) at c.encoded_len-tag.ensures in
    pairs_sized g.KC.MapCodec.writing g.M.MessageSpec.encoding g.M.MessageSpec.slots c.args.number (means g.KC.Value.Blank.meaning g.M.Blank.meaning c.args.map.now.entries)
    c.encoded_len-tag.result tag c.args.cache.now c.message_field_len_by.new.cache c.in_ok-total.total _ c.capped.ensures c.in_ok-total.ensures.sized

pub returns-in_err-total-clause-sized : goal.returns-in_err-total-clause-sized
returns-in_err-total-clause-sized g c =
    let tag = rw (c.new.ensures.number, c.new.ensures.wire_type) at c.encoded_len-tag.ensures in
    let p = err_from_is_err_and c.from_residual.result c.from_residual.ensures.1 in
    rw (p.1, p.2) (pairs_unsized g.KC.MapCodec.writing g.M.MessageSpec.encoding g.M.MessageSpec.slots c.args.number (means g.KC.Value.Blank.meaning g.M.Blank.meaning c.args.map.now.entries)
    c.encoded_len-tag.result tag c.args.cache.now c.message_field_len_by.new.cache c.in_err-total.field-0.0 c.in_err-total.ensures.sized)

pub returns-then-is_empty-clause-sized : goal.returns-then-is_empty-clause-sized
returns-then-is_empty-clause-sized g c =
    none_sized g.KC.Value.Blank.meaning g.M.Blank.meaning g.KC.MapCodec.writing g.M.MessageSpec.encoding g.M.MessageSpec.slots c.args.number
    c.args.map.now.entries c.args.cache.now (c.is_empty.ensures.0 c.if-is_empty.true)
