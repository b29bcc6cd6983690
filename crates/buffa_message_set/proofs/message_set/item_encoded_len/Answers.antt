use Rattle.std.proofs.Common.{arith, ap}
use Rattle.std.proofs.Common.{ℕ, length}
use Rattle.buffa_bytes.specs.Varint.{varint_encoding}
use Rattle.buffa_message_set.proofs.ItemEncodingLemmas.{length-item_encoding}
use Rattle.buffa_message_set.proofs.message_set.item_encoded_len.Goals as goal

pub returns-clause-encoding : goal.returns-clause-encoding
returns-clause-encoding c msg e =
    omega (
      arith,
      length-item_encoding c.args.number msg,
      ap (λ (n : ℕ). length (varint_encoding n)) e,
      ap (λ (n : ℕ). length (varint_encoding n)) c.from.ensures,
      e,
      c.varint_len.ensures,
      c.varint_len-2.ensures,
    )
