use Rattle.std.proofs.Common.{subst, ◌∙◌}
use Rattle.buffa_ext_laws.proofs.HistoryLemmas.{sub-after}
use Rattle.buffa_ext_laws.proofs.extensions.set_values_are_read.Goals as goal

pub returns : goal.returns
returns g c = λ n rs cs v o f k e h.
    g.met.C.ExtensionCodec.reads_back v o f k (subst (λ ds. g.C.ExtensionCodec.reads ds o) (sub-after n rs cs ∙ e) h)
