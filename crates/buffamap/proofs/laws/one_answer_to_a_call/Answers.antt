use Rattle.buffamap.proofs.PinLemmas.{call_pinned}
use Rattle.buffamap.proofs.laws.one_answer_to_a_call.Goals as goal

pub returns : goal.returns
returns c = call_pinned c.args.words.now
