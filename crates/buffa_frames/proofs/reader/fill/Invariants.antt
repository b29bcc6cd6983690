use Rattle.std.proofs.Common.{length, ◌+◌, ◌-◌, ◌≤◌}
use Rattle.buffa_frames.specs.Stream.{IsMissing, IsPart, ReadsOn}
use Rattle.buffa_frames.proofs.reader.fill.Given as goal

-- what was read stands behind what was held, no byte of it was read in vain, and so many are missing
abbrev pub invariant-loop-missing : goal.invariant-loop-missing
invariant-loop-missing g l = record {
  missing : IsMissing l.maximum l.held.items l.missing;
  part : IsPart l.maximum l.held.items;
  reads : ReadsOn l.initial.held.items l.held.items (g.R.Read.remaining l.initial.stream) (g.R.Read.remaining l.stream);
  short : length l.initial.held.items ≤ l.maximum + 10 → length l.held.items ≤ l.maximum + 10;
}

abbrev pub decreases-loop-missing : goal.decreases-loop-missing
decreases-loop-missing g l = l.maximum + 10 - length l.held.items
