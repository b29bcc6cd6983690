use Rattle.buffa_wire_laws.proofs.PinLemmas.{field_is_pinned, records_are_pinned}
use Rattle.buffa_wire_laws.proofs.records.records_are_pinned.Goals as goal

pub returns : goal.returns
returns c = record { field = field_is_pinned; whole = records_are_pinned }
