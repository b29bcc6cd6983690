use Rattle.buffa_map_laws.proofs.CodecWordLemmas.{closed_read, open_read}
use Rattle.buffa_map_laws.proofs.in_bytes.enums_are_read_so.Goals as goal

pub returns-clause-closed : goal.returns-clause-closed
returns-clause-closed g c = closed_read _ _

pub returns-clause-open : goal.returns-clause-open
returns-clause-open g c = open_read _
