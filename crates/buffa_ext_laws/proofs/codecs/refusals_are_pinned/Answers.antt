use Rattle.buffa_ext_laws.proofs.CodecPinLemmas.{refusal_is_pinned}
use Rattle.buffa_ext_laws.proofs.codecs.refusals_are_pinned.Goals as goal

pub returns : goal.returns
returns g c = λ refusal. refusal_is_pinned _ refusal
