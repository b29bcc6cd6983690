use Rattle.std.proofs.Common.{◌≡◌, ◌≤◌, ◌+◌, ◌++◌, map, length}
use Rattle.buffa_ext.specs.SetsAndClears.{after, step_of, put_count}
use Rattle.buffa_ext.proofs.sets_and_clears.replay.Given as goal

abbrev pub invariant-loop-step : goal.invariant-loop-step
invariant-loop-step l = record {
  whole : l.fn.steps.items ≡ l.yielded ++ l.step-iterator.rest.items;
  count : l.done ≡ length l.yielded;
  so_far : l.fields.records ≡ after l.fn.fields.records (map step_of l.yielded);
  room : l.fn.fields.spare ≤ l.fields.spare + put_count (map step_of l.yielded);
}
