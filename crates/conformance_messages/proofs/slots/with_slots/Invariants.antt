use Rattle.std.proofs.Common.{◌≡◌}
use Rattle.conformance_messages.proofs.slots.with_slots.Given as goal

abbrev pub invariant-loop : goal.invariant-loop
invariant-loop l = l.cache.next ≡ 0
