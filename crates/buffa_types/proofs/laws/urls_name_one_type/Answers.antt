use Rattle.buffa_types.proofs.TypeUrlLemmas.{one_type}
use Rattle.buffa_types.proofs.laws.urls_name_one_type.Goals as goal

pub returns : goal.returns
returns c = one_type
