use Rattle.std.proofs.Common.{◌≡◌, length}
use Rattle.buffa_map.specs.Entry.{entry_meaning}
use Rattle.buffa_map.proofs.FieldsLemmas.{Merged}
use Rattle.buffa_map.proofs.entry_fields.merge_fields.Given as goal

-- the fields so far lead from the blanks to what the parts mean, and what they cost was spent
abbrev pub invariant-fields : goal.invariant-fields
invariant-fields g l =
    Merged g.KC.MapValueDecode.reading g.W.MergeValue.reading l.fn.ctx.depth (g.B.Buf.unread l.fn.buf) l.fn.ctx.budget.now
    (entry_meaning g.KC.Value.Blank.meaning g.W.Value.Blank.meaning l.parts) l.ctx.budget.now (g.B.Buf.unread l.buf)
    × (l.ctx.depth ≡ l.fn.ctx.depth) × (g.B.Buf.beyond l.buf ≡ g.B.Buf.beyond l.fn.buf)

abbrev pub decreases-fields : goal.decreases-fields
decreases-fields g l = length (g.B.Buf.unread l.buf)
