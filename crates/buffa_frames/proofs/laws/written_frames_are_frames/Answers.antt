use Rattle.buffa_frames.proofs.LawLemmas.{written_frames}
use Rattle.buffa_frames.proofs.laws.written_frames_are_frames.Goals as goal

pub returns : goal.returns
returns c = written_frames
