use Rattle.std.proofs.Common.{◌≡◌, ◌+◌, ◌≤◌, length}
use Rattle.buffa_map.specs.Merge.{state}
use Rattle.buffa_map.proofs.StepLemmas.{Reached}
use Rattle.buffa_map.proofs.run.read_run_by.Given as goal

-- a run of some entries was read, which are folded over the old map, kept, and charged
abbrev pub invariant-records : goal.invariant-records
invariant-records g l =
    Reached (record {
      key = g.KC.MapValueDecode.reading;
      val = g.VC.MapValueDecode.reading;
      same = g.C.MapStorage.equal;
      keeps_order = g.C.MapStorage.keeps_order;
      depth = l.fn.ctx.depth;
      number = l.number;
      cost = g.KC.MapValueDecode.COST + g.VC.MapValueDecode.COST;
      keeps_undeclared = g.L.Keeper.KEEPS;
    })
    (state (g.C.MapStorage.pairs l.fn.map) (g.L.Keeper.records l.fn.keeper) l.fn.ctx.budget.now) (g.B.Buf.unread l.fn.buf)
    (state (g.C.MapStorage.pairs l.map) (g.L.Keeper.records l.keeper) l.budget) (g.B.Buf.unread l.buf)
    × (g.B.Buf.beyond l.buf ≡ g.B.Buf.beyond l.fn.buf) × (g.L.Keeper.room l.fn.keeper ≤ g.L.Keeper.room l.keeper)

abbrev pub decreases-records : goal.decreases-records
decreases-records g l = length (g.B.Buf.unread l.buf)
