use Rattle.buffa_bytes.proofs.ShortestLemmas.{length_by_bits}
use Rattle.buffa_bytes.proofs.varint.varint_len.Goals as goal

pub returns : goal.returns
returns c = length_by_bits c.args.n c.ranges.n.fits
