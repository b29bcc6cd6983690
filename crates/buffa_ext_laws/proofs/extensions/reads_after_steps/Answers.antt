use Rattle.buffa_ext_laws.proofs.HistoryLemmas.{reads_history}
use Rattle.buffa_ext_laws.proofs.extensions.reads_after_steps.Goals as goal

pub returns : goal.returns
returns g c = reads_history g.C.ExtensionCodec.reads
