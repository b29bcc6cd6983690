use Rattle.std.proofs.Common.{◌≡◌, ◌-◌, ◌^◌, ◌<◌, drop}
use Rattle.buffa_bytes.specs.Readings.{varint_within, varint_at}
use Rattle.buffa_bytes.specs.Unread.{IsTailOf}
use Rattle.buffa_bytes.proofs.StepLemmas.{behind}
use Rattle.buffa_bytes.proofs.varint.decode_digits.Given as goal

abbrev pub invariant-loop-place : goal.invariant-loop-place
invariant-loop-place g l = record {
  scale : l.scale ≡ 128 ^ l.place;
  below : l.value < l.scale;
  place : g.B.Buf.unread l.buf ≡ drop l.place (g.B.Buf.unread l.fn.buf);
  tail : IsTailOf (g.B.Buf.unread l.buf) (g.B.Buf.unread l.fn.buf);
  kept : g.B.Buf.beyond l.buf ≡ g.B.Buf.beyond l.fn.buf;
  read : behind l.value l.scale (varint_within (9 - l.place) (g.B.Buf.unread l.buf)) ≡ varint_at (g.B.Buf.unread l.fn.buf);
}
