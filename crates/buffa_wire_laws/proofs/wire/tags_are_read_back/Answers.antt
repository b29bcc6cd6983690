use Rattle.buffa_bytes.proofs.IntLemmas.{tag_back}
use Rattle.buffa_wire_laws.proofs.wire.tags_are_read_back.Goals as goal

pub returns : goal.returns
returns c = tag_back
