use Rattle.std.proofs.Common.{◌≡◌, ◌+◌, length}
use Rattle.conformance_messages.proofs.slots.slots_word.Given as goal

-- as many slots were consumed as were told, and one more is there than are told
abbrev pub invariant-loop-place : goal.invariant-loop-place
invariant-loop-place l = record {
  told : l.cache.next ≡ l.place;
  left : length l.cache.slots ≡ l.count + 1;
}
