use Rattle.buffa_bytes.proofs.OwnLemmas.{own_bytes_back}
use Rattle.buffa_wire_laws.proofs.wire.own_bytes_are_read_back.Goals as goal

pub returns : goal.returns
returns g c = λ value rest h. own_bytes_back g.P.ProtoBytes.of_bytes (g.P.ProtoBytes.bytes value) value rest h (g.met.P.ProtoBytes.meaning_stays value)
