use Rattle.buffa_map_laws.proofs.EntryWordLemmas.{rules_are_met}
use Rattle.buffa_map_laws.proofs.in_bytes.runs_are_their_entries.Goals as goal

pub returns : goal.returns
returns g c same ordered d n cost keeps = rules_are_met _
