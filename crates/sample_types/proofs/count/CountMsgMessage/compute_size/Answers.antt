use Rattle.std.proofs.Common.{arith, sym, append-nil}
use Rattle.sample_types.specs.CountFacts.{length_count}
use Rattle.sample_types.proofs.count.CountMsgMessage.compute_size.Goals as goal

pub returns-clause-sized : goal.returns-clause-sized
returns-clause-sized c = (
  omega (arith, length_count c.args.self.now.count, c.saturating_mul-total.ensures, c.capped.ensures),
  λ i. record { slots = sym (append-nil c.args._cache.now.slots) i; next = c.args._cache.now.next },
)
