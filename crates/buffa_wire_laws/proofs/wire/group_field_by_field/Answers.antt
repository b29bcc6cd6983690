use Rattle.buffa_bytes.proofs.FieldLemmas.{group_is}
use Rattle.buffa_wire_laws.proofs.wire.group_field_by_field.Goals as goal

pub returns : goal.returns
returns c = group_is
