use Rattle.buffa_bytes.proofs.VarintLemmas.{spelling_same}
use Rattle.buffa_wire_laws.proofs.wire.one_spelling_of_a_length.Goals as goal

pub returns : goal.returns
returns c = spelling_same
