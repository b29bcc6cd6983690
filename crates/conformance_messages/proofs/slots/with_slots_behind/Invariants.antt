use Rattle.std.proofs.Common.{◌≡◌, length}
use Rattle.conformance_messages.proofs.slots.with_slots_behind.Given as goal

abbrev pub invariant-loop : goal.invariant-loop
invariant-loop l = l.cache.next ≡ length l.cache.slots
