use Rattle.buffa_wire_laws.proofs.PinLemmas.{declared_reads}
use Rattle.buffa_wire_laws.proofs.records.open_enums_are_these.Goals as goal

pub returns-clause-read : goal.returns-clause-read
returns-clause-read g c = λ v. declared_reads g.E.Enumeration.of_number v (g.E.Blank.meaning v) (g.met.E.Enumeration.stays v)
