use Rattle.buffa_frames.proofs.LawLemmas.{one_front}
use Rattle.buffa_frames.proofs.laws.bytes_have_one_front.Goals as goal

pub returns : goal.returns
returns c = one_front
