use Rattle.buffa_map_laws.proofs.EntryWordLemmas.{pairs_are_lists}
use Rattle.buffa_map_laws.proofs.in_bytes.pairs_are_lists.Goals as goal

pub returns-clause-lists : goal.returns-clause-lists
returns-clause-lists g c = pairs_are_lists _
