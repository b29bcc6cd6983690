use Rattle.buffa_bytes.specs.Varint.{varint_encoding}
use Rattle.buffa_bytes.proofs.VarintLemmas.{varint_complete, IsVarint-varint_encoding, varint_encoding-shortest}
use Rattle.buffa_wire_laws.proofs.EncodingBytes.{encoding_bytes}
use Rattle.buffa_wire_laws.proofs.wire.shortest_spelling.Goals as goal

pub returns-clause-spells : goal.returns-clause-spells
returns-clause-spells c = IsVarint-varint_encoding

pub returns-clause-shortest : goal.returns-clause-shortest
returns-clause-shortest c = varint_encoding-shortest

pub returns-clause-read_back : goal.returns-clause-read_back
returns-clause-read_back c = λ n rest h. varint_complete (varint_encoding n) n rest (IsVarint-varint_encoding n h)

pub returns-clause-bytes : goal.returns-clause-bytes
returns-clause-bytes c = encoding_bytes
