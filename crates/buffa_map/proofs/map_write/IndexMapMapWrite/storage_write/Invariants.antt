use Rattle.buffa_map.specs.Pairs.{means}
use Rattle.buffa_map.proofs.WriteLemmas.{IsSent}
use Rattle.buffa_map.proofs.map_write.IndexMapMapWrite.storage_write.Given as goal

abbrev pub invariant-loop-key : goal.invariant-loop-key
invariant-loop-key g l =
    IsSent g.K.Blank.meaning g.V.Blank.meaning g.KC.MapCodec.writing g.VC.MapCodec.writing l.number g.KC.MapCodec.fits g.VC.MapCodec.fits
    (means g.K.Blank.meaning g.V.Blank.meaning l.self.entries) (g.W.EncodeSink.written l.fn.sink) (g.W.EncodeSink.room l.fn.sink) l.key-iterator (g.W.EncodeSink.written l.sink) (g.W.EncodeSink.room l.sink)
