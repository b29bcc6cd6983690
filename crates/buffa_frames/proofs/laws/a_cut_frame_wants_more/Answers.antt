use Rattle.buffa_frames.proofs.LawLemmas.{cut_frame}
use Rattle.buffa_frames.proofs.laws.a_cut_frame_wants_more.Goals as goal

pub returns : goal.returns
returns c = cut_frame
