use Rattle.buffa_bytes.proofs.LendLemmas.{lent_full}
use Rattle.buffa_bytes.proofs.types.delimited.decode_string_to.Goals as goal

pub returns-clause-full : goal.returns-clause-full
returns-clause-full g c = lent_full _ _ _ c.with_delimited.result _ _ c.with_delimited.ensures.lends
