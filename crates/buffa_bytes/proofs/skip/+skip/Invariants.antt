use Rattle.std.proofs.Common.{◌≡◌, length, ◌+◌, ◌*◌}
use Rattle.buffa_bytes.specs.Readings.{group_at}
use Rattle.buffa_bytes.specs.Unread.{IsTailOf}
use Rattle.buffa_bytes.proofs.skip.+skip.Given as goal

abbrev pub decreases-skip_field_depth : goal.decreases-skip_field_depth
decreases-skip_field_depth g l = 2 * l.depth + 1

abbrev pub decreases-skip_group : goal.decreases-skip_group
decreases-skip_group g l = 2 * l.depth

abbrev pub invariant-skip_group-loop-tag : goal.invariant-skip_group-loop-tag
invariant-skip_group-loop-tag g l = record {
  tail : IsTailOf (g.B.Buf.unread l.buf) (g.B.Buf.unread l.fn.buf);
  kept : g.B.Buf.beyond l.buf ≡ g.B.Buf.beyond l.fn.buf;
  read : group_at l.depth l.number (g.B.Buf.unread l.buf) ≡ group_at l.depth l.number (g.B.Buf.unread l.fn.buf);
}

abbrev pub decreases-skip_group-loop-tag : goal.decreases-skip_group-loop-tag
decreases-skip_group-loop-tag g l = length (g.B.Buf.unread l.buf)
