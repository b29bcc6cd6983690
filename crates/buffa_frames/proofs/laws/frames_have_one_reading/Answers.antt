use Rattle.buffa_frames.proofs.LawLemmas.{one_reading}
use Rattle.buffa_frames.proofs.laws.frames_have_one_reading.Goals as goal

pub returns : goal.returns
returns c = λ bytes one other a b. one_reading one other bytes a b
