use Rattle.buffa_wire_laws.proofs.FaultLemmas.{field_full, list_full}
use Rattle.buffa_wire_laws.proofs.records.memory_is_no_fault.Goals as goal

pub returns : goal.returns
returns c = record { field = field_full; records = list_full }
