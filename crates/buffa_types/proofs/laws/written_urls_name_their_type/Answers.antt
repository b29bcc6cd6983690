use Rattle.buffa_types.proofs.TypeUrlLemmas.{written}
use Rattle.buffa_types.proofs.laws.written_urls_name_their_type.Goals as goal

pub returns : goal.returns
returns c = written
