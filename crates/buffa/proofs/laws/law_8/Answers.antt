use Rattle.buffa_map.proofs.SizeLemmas.{length-field_encoding}
use Rattle.buffa_map.specs.Scalars.{delimited_writing}
use Rattle.buffa.proofs.laws.law_8.Goals as goal

pub returns-clause-messages : goal.returns-clause-messages
returns-clause-messages g c n l = length-field_encoding g.KC.MapCodec.writing (delimited_writing g.M.MessageSpec.encoding) n l
