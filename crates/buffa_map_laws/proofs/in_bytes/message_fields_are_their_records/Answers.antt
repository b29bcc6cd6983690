use Rattle.buffa_map_laws.proofs.FieldWordLemmas.{message_fields_are_records}
use Rattle.buffa_map_laws.proofs.in_bytes.message_fields_are_their_records.Goals as goal

pub returns : goal.returns
returns g c = message_fields_are_records _ _ _
