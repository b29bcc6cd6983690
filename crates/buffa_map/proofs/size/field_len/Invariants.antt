use Rattle.std.proofs.Common.{◌≡◌, ◌++◌, List}
use Rattle.buffa_map.specs.Pairs.{ListsOnce, means}
use Rattle.buffa_map.specs.Encoding.{field_size, saturated}
use Rattle.buffa_map.proofs.size.field_len.Given as goal

-- of what the walk gives, the records of some pairs are counted, and the others are left
abbrev pub invariant-loop-key : goal.invariant-loop-key
invariant-loop-key g l =
    (all : List (g.row.KC-Value-Meaning.Denot × g.row.VC-Value-Meaning.Denot)) × (done : List (g.row.KC-Value-Meaning.Denot × g.row.VC-Value-Meaning.Denot))
    × g.C.MapStorage.walks l.map all × ListsOnce g.C.MapStorage.equal (g.C.MapStorage.pairs l.map) all
    × (all ≡ done ++ means g.KC.Value.Blank.meaning g.VC.Value.Blank.meaning (g.C.MapWalk.left l.key-iterator))
    × (l.total ≡ saturated (field_size g.KC.MapCodec.writing g.VC.MapCodec.writing l.outer_tag_len done))
