use Rattle.std.proofs.Common.{◌-◌, ◌≤◌, length, vec_capacity, vec_len}
use Rattle.buffa_codec.proofs.PackLemmas.{Packs}
use Rattle.buffa_codec.proofs.number.AnySingularCodec.decode_packed.Given as goal

-- the numbers so far and those of the rest are those of all, and each has taken a place at most; no place is lost
abbrev pub invariant-loop-n : goal.invariant-loop-n
invariant-loop-n g l = record {
  packs : Packs g.N.Form.Form.WIRE_TYPE g.N.Value.Blank.meaning g.N.Numbered.value_of l.bytes l.rest l.fn.out.items l.out.items (vec_capacity l.fn.out - vec_len l.fn.out) (vec_capacity l.out - vec_len l.out);
  kept : vec_capacity l.fn.out ≤ vec_capacity l.out;
}

abbrev pub decreases-loop-n : goal.decreases-loop-n
decreases-loop-n g l = length l.rest
