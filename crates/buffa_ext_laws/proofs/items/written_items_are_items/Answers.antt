use Rattle.buffa_bytes.proofs.ShortestLemmas.{varint_encoding-last}
use Rattle.std.proofs.Common.{◌++◌, ap, arith, sym}
use Rattle.buffa_message_set.specs.Item.{body_encoding}
use Rattle.buffa_message_set.proofs.ItemLemmas.{one_item, written_item}
use Rattle.buffa_ext_laws.proofs.items.written_items_are_items.Goals as goal

pub returns-clause-start : goal.returns-clause-start
returns-clause-start c id msg = ap (λ z. z ++ body_encoding id msg) (varint_encoding-last 11 (omega arith))

pub returns-clause-item : goal.returns-clause-item
returns-clause-item c = written_item

pub returns-clause-only : goal.returns-clause-only
returns-clause-only c d id msg rest range short front after other n h e = one_item d front (body_encoding id msg) after rest other msg n id h (written_item d id msg range short) (sym e)
