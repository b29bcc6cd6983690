use Rattle.buffa_frames.proofs.LawLemmas.{written_front}
use Rattle.buffa_frames.proofs.laws.a_written_frame_is_at_the_front.Goals as goal

pub returns : goal.returns
returns c = written_front
