use Rattle.sample_set_msg.proofs.PinLemmas.{stop_is_pinned}
use Rattle.sample_set_msg.proofs.laws.refused_sets_are_pinned.Goals as goal

pub returns : goal.returns
returns c = λ d v bs b e f u w x y. stop_is_pinned d v u w bs b x y e f
