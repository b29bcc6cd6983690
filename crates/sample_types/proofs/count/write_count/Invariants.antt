use Rattle.std.proofs.Common.{List, ℕ, Result}
use Rattle.buffa_bytes.specs.declared.error.EncodeError.{EncodeError}
use Rattle.buffa_bytes.specs.Written.{Writes}
use Rattle.sample_types.specs.Count.{count_encoding}
use Rattle.sample_types.proofs.count.write_count.Given as goal

-- writing what is left is writing all
abbrev pub invariant-fields : goal.invariant-fields
invariant-fields g l = record {
  whole : (r : Result (Unit {0}) EncodeError) (b : List ℕ) → Writes r (g.S.EncodeSink.written l.sink) (count_encoding l.left) b → Writes r (g.S.EncodeSink.written l.fn.sink) (count_encoding l.count) b;
}

abbrev pub decreases-fields : goal.decreases-fields
decreases-fields g l = l.left
