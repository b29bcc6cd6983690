use Rattle.buffa_wire_laws.proofs.PinLemmas.{passes_are_pinned}
use Rattle.buffa_wire_laws.proofs.records.passes_are_pinned.Goals as goal

pub returns : goal.returns
returns c = passes_are_pinned
