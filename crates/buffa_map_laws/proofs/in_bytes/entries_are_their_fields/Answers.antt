use Rattle.buffa_map_laws.proofs.EntryWordLemmas.{entries_are_fields, entries_charge}
use Rattle.buffa_map_laws.proofs.in_bytes.entries_are_their_fields.Goals as goal

pub returns-clause-fields : goal.returns-clause-fields
returns-clause-fields g c = entries_are_fields _ _

pub returns-clause-needs : goal.returns-clause-needs
returns-clause-needs g c = entries_charge _ _
