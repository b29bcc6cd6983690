use Rattle.buffa_map_laws.proofs.RunLawLemmas.{memory_reported}
use Rattle.buffa_map_laws.proofs.runs.fields_of_entries_take_memory_so.Goals as goal

pub returns : goal.returns
returns g c = λ d e h. memory_reported g.KC.MapValueDecode.reading g.VC.MapValueDecode.reading d e h
