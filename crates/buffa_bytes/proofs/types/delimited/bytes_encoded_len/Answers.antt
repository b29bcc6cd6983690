use Rattle.std.proofs.Common.{arith, length}
use Rattle.buffa_bytes.proofs.ShortestLemmas.{ten_at_most}
use Rattle.buffa_bytes.proofs.types.delimited.bytes_encoded_len.Goals as goal

pub overflow_add-result : goal.overflow_add-result
overflow_add-result c = omega (arith, ten_at_most (length c.args.value.now) (omega arith))
