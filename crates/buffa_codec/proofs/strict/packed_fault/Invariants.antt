use Rattle.std.proofs.Common.{◌≡◌, length}
use Rattle.buffa_codec.specs.Strict.{packed_fault}
use Rattle.buffa_codec.proofs.strict.packed_fault.Given as goal

abbrev pub invariant-loop-rest : goal.invariant-loop-rest
invariant-loop-rest g l = packed_fault g.F.Form.WIRE_TYPE l.rest ≡ packed_fault g.F.Form.WIRE_TYPE l.bytes

abbrev pub decreases-loop-rest : goal.decreases-loop-rest
decreases-loop-rest g l = length l.rest
