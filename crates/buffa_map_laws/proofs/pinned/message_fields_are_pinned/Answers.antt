use Rattle.buffa_map_laws.proofs.PinEncodingLemmas.{messages_are_pinned}
use Rattle.buffa_map_laws.proofs.pinned.message_fields_are_pinned.Goals as goal

pub returns : goal.returns
returns g c = messages_are_pinned g.KC.MapCodec.writing g.M.MessageSpec.encoding g.M.MessageSpec.slots
