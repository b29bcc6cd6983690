use Rattle.buffa_map_laws.proofs.RunLawLemmas.{entry_is}
use Rattle.buffa_map_laws.proofs.runs.entries_are_written_so.Goals as goal

pub returns-clause-entry : goal.returns-clause-entry
returns-clause-entry g c = λ p. entry_is g.KC.MapCodec.writing g.VC.MapCodec.writing p
