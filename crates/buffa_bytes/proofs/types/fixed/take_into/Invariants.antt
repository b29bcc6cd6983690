use Rattle.std.proofs.Common.{◌≡◌, ◌-◌, ◌≤◌, length, take, drop}
use Rattle.buffa_bytes.proofs.types.fixed.take_into.Given as goal

abbrev pub invariant-loop-at : goal.invariant-loop-at
invariant-loop-at g l =
    let unread = g.B.Buf.unread in
    record {
      within : l.at ≤ length l.bytes;
      size : length l.bytes ≡ length l.fn.bytes;
      filled : take l.at l.bytes ≡ take l.at (unread l.fn.buf);
      rest : unread l.buf ≡ drop l.at (unread l.fn.buf);
      kept : g.B.Buf.beyond l.buf ≡ g.B.Buf.beyond l.fn.buf;
    }

abbrev pub decreases-loop-at : goal.decreases-loop-at
decreases-loop-at g l = length l.initial.bytes - l.at
