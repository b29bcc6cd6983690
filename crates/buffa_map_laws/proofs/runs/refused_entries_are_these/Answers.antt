use Rattle.buffa_map_laws.proofs.RunLawLemmas.{fault_is, is_fault}
use Rattle.buffa_map_laws.proofs.runs.refused_entries_are_these.Goals as goal

pub returns-clause-fault : goal.returns-clause-fault
returns-clause-fault g c = λ d cost more left bs f.
    (fault_is g.KC.MapValueDecode.reading g.VC.MapValueDecode.reading d cost more left bs f, is_fault g.KC.MapValueDecode.reading g.VC.MapValueDecode.reading d cost more left bs f)
