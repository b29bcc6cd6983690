use Rattle.buffa_bytes.proofs.FieldLemmas.{one_payload, one_field}
use Rattle.buffa_wire_laws.proofs.wire.no_field_begins_another.Goals as goal

pub returns-clause-payload : goal.returns-clause-payload
returns-clause-payload c = one_payload

pub returns-clause-field : goal.returns-clause-field
returns-clause-field c = one_field
