use Rattle.std.proofs.Common.{◌≡◌, length}
use Rattle.buffa_bytes.specs.Unread.{IsTailOf}
use Rattle.sample_types.specs.Census.{census_merged, counts_by_name}
use Rattle.sample_types.proofs.census.Census.merge.Given as goal

-- what is left comes to what all of it comes to
abbrev pub invariant-fields : goal.invariant-fields
invariant-fields g l =
    (census_merged l.fn.ctx.depth (counts_by_name l.fn.self.counts.entries) (g.B.Buf.unread l.fn.buf)
    ≡ census_merged l.fn.ctx.depth (counts_by_name l.self.counts.entries) (g.B.Buf.unread l.buf))
    × IsTailOf (g.B.Buf.unread l.buf) (g.B.Buf.unread l.fn.buf) × (g.B.Buf.beyond l.buf ≡ g.B.Buf.beyond l.fn.buf)

abbrev pub decreases-fields : goal.decreases-fields
decreases-fields g l = length (g.B.Buf.unread l.buf)
