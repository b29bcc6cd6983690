use Rattle.buffa_map.specs.Pairs.{means}
use Rattle.buffa_fields.proofs.MapOfMessagesLemmas.{none_written, pairs_written}
use Rattle.buffa_recursive.proofs.ordered_maps.write_pairs_by.Goals as goal

pub returns : goal.returns
returns g c =
    pairs_written g.KC.MapCodec.writing g.M.MessageSpec.encoding g.M.MessageSpec.slots c.args.number (means g.KC.Value.Blank.meaning g.M.Blank.meaning c.args.map.now.entries) c.args.cache.now c.write_message_field_by.new.cache
    (g.S.EncodeSink.written c.args.sink.now) (g.S.EncodeSink.written c.write_message_field_by.new.sink) c.write_message_field_by.result c.write_message_field_by.ensures.written

pub returns-then-is_empty : goal.returns-then-is_empty
returns-then-is_empty g c =
    none_written g.KC.Value.Blank.meaning g.M.Blank.meaning g.KC.MapCodec.writing g.M.MessageSpec.encoding g.M.MessageSpec.slots c.args.number
    c.args.map.now.entries c.args.cache.now (g.S.EncodeSink.written c.args.sink.now) (c.is_empty.ensures.0 c.if-is_empty.true)
