use Rattle.buffa_bytes.proofs.IntLemmas.{int32_back, negative_ten}
use Rattle.buffa_wire_laws.proofs.wire.int32_is_read_back.Goals as goal

pub returns-clause-read_back : goal.returns-clause-read_back
returns-clause-read_back c = int32_back

pub returns-clause-negative : goal.returns-clause-negative
returns-clause-negative c = negative_ten
