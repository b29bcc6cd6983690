use Rattle.std.proofs.Common.{◌≡◌, ◌≤◌, ◌++◌, length, take, drop}
use Rattle.buffa_bytes.specs.Unread.{IsTailOf}
use Rattle.buffa_bytes.proofs.buf.move_bytes.Given as goal

abbrev pub invariant-loop-left : goal.invariant-loop-left
invariant-loop-left g l = record {
  below : l.left ≤ l.len;
  within : l.left ≤ length (g.B.Buf.unread l.buf);
  moved : l.bytes.items ++ take l.left (g.B.Buf.unread l.buf) ≡ l.fn.bytes.items ++ take l.len (g.B.Buf.unread l.fn.buf);
  rest : drop l.left (g.B.Buf.unread l.buf) ≡ drop l.len (g.B.Buf.unread l.fn.buf);
  tail : IsTailOf (g.B.Buf.unread l.buf) (g.B.Buf.unread l.fn.buf);
  kept : g.B.Buf.beyond l.buf ≡ g.B.Buf.beyond l.fn.buf;
}

abbrev pub decreases-loop-left : goal.decreases-loop-left
decreases-loop-left g l = l.left
