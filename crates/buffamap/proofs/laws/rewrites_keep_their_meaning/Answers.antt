use Rattle.buffamap.proofs.MeaningLemmas.{keeps_meaning}
use Rattle.buffamap.proofs.laws.rewrites_keep_their_meaning.Goals as goal

pub returns : goal.returns
returns c = keeps_meaning c.args.number c.rewrite_means.ensures c.runs_are_read.ensures c.one_reading.ensures c.requires
