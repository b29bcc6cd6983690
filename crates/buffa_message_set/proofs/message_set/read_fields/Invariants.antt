use Rattle.std.proofs.Common.{◌≡◌, length}
use Rattle.buffa_bytes.specs.Unread.{IsTailOf}
use Rattle.buffa_message_set.specs.Item.{Reaches, said_by}
use Rattle.buffa_message_set.proofs.message_set.read_fields.Given as goal

-- the fields so far were read and say what the parts hold, and what is unread follows them
abbrev pub invariant-loop-tag : goal.invariant-loop-tag
invariant-loop-tag g l = record {
  reached : Reaches l.fn.depth (g.B.Buf.unread l.fn.buf) (said_by l.parts) (g.B.Buf.unread l.buf);
  tail : IsTailOf (g.B.Buf.unread l.buf) (g.B.Buf.unread l.fn.buf);
  kept : g.B.Buf.beyond l.buf ≡ g.B.Buf.beyond l.fn.buf;
}

abbrev pub decreases-loop-tag : goal.decreases-loop-tag
decreases-loop-tag g l = length (g.B.Buf.unread l.buf)
