use Rattle.std.proofs.Common.{◌≡◌, ◌≤◌, ◌-◌, length, drop}
use Rattle.buffa_bytes.specs.Pieces.{joined}
use Rattle.buffa_bytes.proofs.pieces.settle.Given as goal

abbrev pub invariant-loop-at : goal.invariant-loop-at
invariant-loop-at l = record {
  rest : drop l.offset (joined (drop l.at l.pieces)) ≡ drop l.past (joined (drop l.from l.pieces));
  fits : length (joined (drop l.at l.pieces)) ≤ length (joined (drop l.from l.pieces));
}

abbrev pub decreases-loop-at : goal.decreases-loop-at
decreases-loop-at l = length l.pieces - l.at
