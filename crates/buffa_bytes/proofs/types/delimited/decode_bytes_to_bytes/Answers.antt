use Rattle.buffa_bytes.proofs.UnreadLemmas.{left_behind}
use Rattle.buffa_bytes.proofs.types.delimited.decode_bytes_to_bytes.Goals as goal

pub returns-in_err-from_vec-clause-left : goal.returns-in_err-from_vec-clause-left
returns-in_err-from_vec-clause-left g c = left_behind c.from_residual-in_err-from_vec.result (g.B.Buf.unread c.args.buf.now) _ _ c.in_ok-bytes.ensures.reads
