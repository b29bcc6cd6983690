use Rattle.std.proofs.Common.{List}
use Rattle.buffa_map.specs.Pairs.{ListsOnce}
use Rattle.buffa_map.proofs.WriteLemmas.{IsSent}
use Rattle.buffa_map.proofs.write.write_field.Given as goal

-- all is what the walk gives
abbrev pub invariant-loop-key : goal.invariant-loop-key
invariant-loop-key g l =
    (all : List (g.row.KC-Value-Meaning.Denot × g.row.VC-Value-Meaning.Denot)) × g.C.MapStorage.walks l.map all × ListsOnce g.C.MapStorage.equal (g.C.MapStorage.pairs l.map) all
    × IsSent g.KC.Value.Blank.meaning g.VC.Value.Blank.meaning g.KC.MapCodec.writing g.VC.MapCodec.writing l.number g.KC.MapCodec.fits g.VC.MapCodec.fits all
    (g.S.EncodeSink.written l.fn.sink) (g.S.EncodeSink.room l.fn.sink) (g.C.MapWalk.left l.key-iterator) (g.S.EncodeSink.written l.sink) (g.S.EncodeSink.room l.sink)
