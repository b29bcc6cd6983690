use Rattle.buffa_map_laws.proofs.FieldWordLemmas.{fields_are_records}
use Rattle.buffa_map_laws.proofs.in_bytes.fields_are_their_records.Goals as goal

pub returns : goal.returns
returns g c = fields_are_records _ _ _ _
