use Rattle.std.proofs.Common.{ap, not, refl}
use Rattle.buffa_fields.specs.facts.BlankFacts.{is_nought, is_zero, nought_only, same_false_only, zero_only}
use Rattle.buffa_fields_laws.proofs.proto_types.numbers_are_these.Goals as goal

pub returns-clause-int32 : goal.returns-clause-int32
returns-clause-int32 c = λ v. (refl, (zero_only v, λ h. ap is_zero h))

pub returns-clause-int64 : goal.returns-clause-int64
returns-clause-int64 c = λ v. (refl, (zero_only v, λ h. ap is_zero h))

pub returns-clause-uint32 : goal.returns-clause-uint32
returns-clause-uint32 c = λ v. (refl, (nought_only v, λ h. ap is_nought h))

pub returns-clause-uint64 : goal.returns-clause-uint64
returns-clause-uint64 c = λ v. (refl, (nought_only v, λ h. ap is_nought h))

pub returns-clause-sint32 : goal.returns-clause-sint32
returns-clause-sint32 c = λ v. (refl, (zero_only v, λ h. ap is_zero h))

pub returns-clause-sint64 : goal.returns-clause-sint64
returns-clause-sint64 c = λ v. (refl, (zero_only v, λ h. ap is_zero h))

pub returns-clause-fixed32 : goal.returns-clause-fixed32
returns-clause-fixed32 c = λ v. (refl, (nought_only v, λ h. ap is_nought h))

pub returns-clause-fixed64 : goal.returns-clause-fixed64
returns-clause-fixed64 c = λ v. (refl, (nought_only v, λ h. ap is_nought h))

pub returns-clause-sfixed32 : goal.returns-clause-sfixed32
returns-clause-sfixed32 c = λ v. (refl, (zero_only v, λ h. ap is_zero h))

pub returns-clause-sfixed64 : goal.returns-clause-sfixed64
returns-clause-sfixed64 c = λ v. (refl, (zero_only v, λ h. ap is_zero h))

pub returns-clause-bool : goal.returns-clause-bool
returns-clause-bool c = λ v. (refl, (same_false_only v, λ h. ap not h))

pub returns-clause-float : goal.returns-clause-float
returns-clause-float c = λ v. (refl, (nought_only v, λ h. ap is_nought h))

pub returns-clause-double : goal.returns-clause-double
returns-clause-double c = λ v. (refl, (nought_only v, λ h. ap is_nought h))
