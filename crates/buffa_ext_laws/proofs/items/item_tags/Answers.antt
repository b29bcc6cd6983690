use Rattle.std.proofs.Common.{arith}
use Rattle.buffa_bytes.proofs.ShortestLemmas.{varint_encoding-last}
use Rattle.buffa_ext_laws.proofs.items.item_tags.Goals as goal

pub returns-clause-start : goal.returns-clause-start
returns-clause-start c = varint_encoding-last 11 (omega arith)

pub returns-clause-end : goal.returns-clause-end
returns-clause-end c = varint_encoding-last 12 (omega arith)

pub returns-clause-type_id : goal.returns-clause-type_id
returns-clause-type_id c = varint_encoding-last 16 (omega arith)

pub returns-clause-message : goal.returns-clause-message
returns-clause-message c = varint_encoding-last 26 (omega arith)
