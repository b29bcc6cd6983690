use Rattle.buffa_map_laws.proofs.CodecWordLemmas.{messages_read}
use Rattle.buffa_map_laws.proofs.in_bytes.messages_are_read_so.Goals as goal

pub returns : goal.returns
returns g c = messages_read _ _ _
