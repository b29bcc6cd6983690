use Rattle.std.proofs.Common.{◌≡◌, ◌≤◌, drop, length}
use Rattle.buffa_bytes.specs.Varint.{base128}
use Rattle.buffa_frames.proofs.at_front.number_of.Given as goal

-- the digits from the place on were read
abbrev pub invariant-loop-at : goal.invariant-loop-at
invariant-loop-at l = record {
  within : l.at ≤ length l.digits;
  read : l.value ≡ base128 (drop l.at l.digits);
}

abbrev pub decreases-loop-at : goal.decreases-loop-at
decreases-loop-at l = l.at
