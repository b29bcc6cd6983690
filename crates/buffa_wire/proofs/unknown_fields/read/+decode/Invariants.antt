use Rattle.std.proofs.Common.{◌≡◌, ◌+◌, ◌-◌, ◌*◌, length}
use Rattle.buffa_bytes.specs.Unread.{IsTailOf, bytes_read}
use Rattle.buffa_wire.specs.BudgetLeft.{UnknownsSpent}
use Rattle.buffa_wire.proofs.SpentLemmas.{IsBegun}
use Rattle.buffa_wire.specs.RecordReading.{group_records_at, group_records_behind}
use Rattle.buffa_wire.proofs.unknown_fields.read.+decode.Given as goal

abbrev pub decreases-decode_unknown_field : goal.decreases-decode_unknown_field
decreases-decode_unknown_field g l = 2 * l.ctx.depth + 1

abbrev pub decreases-decode_group : goal.decreases-decode_group
decreases-decode_group g l = 2 * l.ctx.depth

-- what is read so far, and then the rest of the group, is the group
abbrev pub invariant-decode_group-loop-fields : goal.invariant-decode_group-loop-fields
invariant-decode_group-loop-fields g l = record {
  read : group_records_behind (group_records_at (l.depth - 1)) l.number (l.fields.records, l.budget.unknown) (g.B.Buf.unread l.buf) ≡ group_records_at l.fn.ctx.depth l.fn.ctx.budget.now.unknown l.fn.number (g.B.Buf.unread l.fn.buf);
  memory : l.budget.memory ≡ l.fn.ctx.budget.now.memory;
  spent : UnknownsSpent (bytes_read (g.B.Buf.unread l.fn.buf) (g.B.Buf.unread l.buf)) l.fn.ctx.budget.now.unknown l.budget.unknown;
  tail : IsTailOf (g.B.Buf.unread l.buf) (g.B.Buf.unread l.fn.buf);
  begun : IsBegun (l.depth - 1) l.fn.ctx.budget.now.unknown (g.B.Buf.unread l.fn.buf) l.budget.unknown (g.B.Buf.unread l.buf);
  kept : g.B.Buf.beyond l.buf ≡ g.B.Buf.beyond l.fn.buf;
}

abbrev pub decreases-decode_group-loop-fields : goal.decreases-decode_group-loop-fields
decreases-decode_group-loop-fields g l = length (g.B.Buf.unread l.buf)
