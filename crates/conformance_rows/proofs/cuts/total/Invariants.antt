use Rattle.std.proofs.Common.{◌≡◌, ◌+◌, length, drop}
use Rattle.buffa_bytes.specs.Pieces.{joined}
use Rattle.conformance_rows.proofs.cuts.total.Given as goal

abbrev pub invariant-loop-piece : goal.invariant-loop-piece
invariant-loop-piece l = l.sum + length (joined (drop l.piece-index l.pieces)) ≡ length (joined l.pieces)
