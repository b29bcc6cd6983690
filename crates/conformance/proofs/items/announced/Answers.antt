use Rattle.std.proofs.Common.{arith}
use Rattle.buffa_bytes.proofs.ShortestLemmas.{ten_at_most}
use Rattle.conformance.proofs.items.announced.Goals as goal

pub item_encoded_len-requires : goal.item_encoded_len-requires
item_encoded_len-requires c =
    omega (
      arith,
      ten_at_most c.args.number (omega (arith, c.ranges.number.fits)),
      ten_at_most c.args.payload_len (omega (arith, c.ranges.payload_len.fits)),
      c.requires,
    )
