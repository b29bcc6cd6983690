use Rattle.std.proofs.Common.{refl}
use Rattle.buffa_bytes.proofs.FieldLemmas.{same_false}
use Rattle.buffa_bytes.specs.declared.wire_type.WireType.TheVariants.{LengthDelimited}
use Rattle.buffa_fields_laws.proofs.refusals.lists_take_these_wire_types.Goals as goal

pub returns-clause-one : goal.returns-clause-one
returns-clause-one g c = λ n w other. rw (same_false LengthDelimited w other) refl
