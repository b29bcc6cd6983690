use Rattle.buffa_fields.proofs.MapOfMessagesLemmas.{pairs_written}
use Rattle.buffa_fields.proofs.members.message_map_field.write_pairs.Goals as goal

pub returns : goal.returns
returns g c =
    pairs_written g.KC.MapCodec.writing g.N.MessageSpec.encoding g.N.MessageSpec.slots c.args.number (g.C.StableOrder.walk c.args.map.now) c.args.cache.now c.write_message_field.new.cache
    (g.S.EncodeSink.written c.args.sink.now) (g.S.EncodeSink.written c.write_message_field.new.sink) c.write_message_field.result c.write_message_field.ensures.written
