use Rattle.buffa.proofs.SlotLemmas.{slots_are_lengths}
use Rattle.buffa.proofs.laws.law_9.Goals as goal

pub returns : goal.returns
returns g c n l rest h = slots_are_lengths g.KC.MapCodec.writing g.M.MessageSpec.encoding g.M.MessageSpec.slots n l rest h
