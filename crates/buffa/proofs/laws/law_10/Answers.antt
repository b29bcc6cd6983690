use Rattle.buffa.proofs.KeyLemmas.{keeps_stored_keys}
use Rattle.buffa.proofs.laws.law_10.Goals as goal

pub returns-clause-keys : goal.returns-clause-keys
returns-clause-keys g c = keeps_stored_keys _ g.C.MapStorage.equal g.met.C.MapStorage.equivalence
