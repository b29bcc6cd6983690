use Rattle.buffa_bytes.proofs.FullLemmas.{varint_full, tag_full, delimited_full, payload_value_full, payload_full, payload_fault_full}
use Rattle.buffa_wire_laws.proofs.wire.memory_is_no_fault.Goals as goal

pub returns : goal.returns
returns c = record { varint = varint_full; tag = tag_full; delimited = delimited_full; content = payload_value_full; payload = payload_full; fault = payload_fault_full }
