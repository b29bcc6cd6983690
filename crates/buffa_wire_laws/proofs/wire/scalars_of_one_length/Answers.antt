use Rattle.std.proofs.Common.{refl}
use Rattle.buffa_bytes.proofs.ScalarLemmas.{bool_length}
use Rattle.buffa_wire_laws.proofs.wire.scalars_of_one_length.Goals as goal

pub returns-clause-bool : goal.returns-clause-bool
returns-clause-bool c = bool_length

pub returns-clause-fixed32 : goal.returns-clause-fixed32
returns-clause-fixed32 c = λ n. refl

pub returns-clause-fixed64 : goal.returns-clause-fixed64
returns-clause-fixed64 c = λ n. refl

pub returns-clause-sfixed32 : goal.returns-clause-sfixed32
returns-clause-sfixed32 c = λ v. refl

pub returns-clause-sfixed64 : goal.returns-clause-sfixed64
returns-clause-sfixed64 c = λ v. refl
