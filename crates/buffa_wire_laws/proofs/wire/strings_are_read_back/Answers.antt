use Rattle.buffa_bytes.proofs.DelimitedLemmas.{string_back}
use Rattle.buffa_wire_laws.proofs.wire.strings_are_read_back.Goals as goal

pub returns : goal.returns
returns c = string_back
