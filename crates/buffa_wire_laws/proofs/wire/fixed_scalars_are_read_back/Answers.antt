use Rattle.std.proofs.Common.{refl}
use Rattle.std.specs.Int.{cast_unsigned, w32, w64}
use Rattle.buffa_bytes.specs.Scalars.{fixed32_of, fixed64_of, sfixed32_of, sfixed64_of}
use Rattle.buffa_bytes.proofs.ScalarLemmas.{four_back, eight_back, unsigned32_fits, unsigned64_fits, sfixed32_means, sfixed64_means}
use Rattle.buffa_wire_laws.proofs.wire.fixed_scalars_are_read_back.Goals as goal

pub returns-clause-fixed32 : goal.returns-clause-fixed32
returns-clause-fixed32 c = λ n rest h. four_back fixed32_of n n rest h refl

pub returns-clause-fixed64 : goal.returns-clause-fixed64
returns-clause-fixed64 c = λ n rest h. eight_back fixed64_of n n rest h refl

pub returns-clause-sfixed32 : goal.returns-clause-sfixed32
returns-clause-sfixed32 c = λ v rest h. four_back sfixed32_of (cast_unsigned w32 v) v rest (unsigned32_fits v h) (sfixed32_means v h)

pub returns-clause-sfixed64 : goal.returns-clause-sfixed64
returns-clause-sfixed64 c = λ v rest h. eight_back sfixed64_of (cast_unsigned w64 v) v rest (unsigned64_fits v h) (sfixed64_means v h)
