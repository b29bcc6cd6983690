use Rattle.buffa_map_laws.proofs.RunLawLemmas.{entry_reported}
use Rattle.buffa_map_laws.proofs.runs.faults_of_entries_are_these.Goals as goal

pub returns : goal.returns
returns g c = λ d e f h. entry_reported g.KC.MapValueDecode.reading g.VC.MapValueDecode.reading d e f h
