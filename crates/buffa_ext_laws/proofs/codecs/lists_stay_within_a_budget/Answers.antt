use Rattle.buffa_wire.specs.BudgetLeft.{defaults}
use Rattle.buffa_ext_laws.proofs.BoundLemmas.{covered}
use Rattle.buffa_ext_laws.proofs.codecs.lists_stay_within_a_budget.Goals as goal

pub returns : goal.returns
returns g c = λ ds total. covered (g.C.SingularCodec.one 100) (g.C.SingularCodec.leaves 100) g.C.SingularCodec.cost g.met.C.SingularCodec.spends_cost g.met.C.SingularCodec.spends defaults ds total
