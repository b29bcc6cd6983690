use Rattle.buffa_map.proofs.SizeLemmas.{length-field_encoding}
use Rattle.buffa_map.proofs.laws.size_is_length.Goals as goal

pub returns : goal.returns
returns g c n l = length-field_encoding g.KC.MapCodec.writing g.VC.MapCodec.writing n l
