use Rattle.std.proofs.Common.{ap, refl}
use Rattle.buffa_fields.specs.facts.BlankFacts.{is_none, is_zero, none_only, zero_only}
use Rattle.buffa_fields_laws.proofs.proto_types.texts_and_enums_are_these.Goals as goal

pub returns-clause-string : goal.returns-clause-string
returns-clause-string g c = λ v. (refl, (none_only (g.T.ProtoString.text v), λ h. ap is_none h))

pub returns-clause-bytes : goal.returns-clause-bytes
returns-clause-bytes g c = λ v. (refl, (none_only (g.B.ProtoBytes.bytes v), λ h. ap is_none h))

pub returns-clause-shared : goal.returns-clause-shared
returns-clause-shared g c = λ v. (refl, (none_only v, λ h. ap is_none h))

pub returns-clause-open : goal.returns-clause-open
returns-clause-open g c = λ v. (refl, (zero_only v.1, λ h. ap is_zero h))
