use Rattle.std.proofs.Common.{[], refl}
use Rattle.buffa_bytes.proofs.PayloadValueLemmas.{payload_value_faulty}
use Rattle.buffa_codec.specs.StrictFacts.{packed_end, packed_stops}
use Rattle.buffa_ext_laws.proofs.PackedFaultLemmas.{fault_complete, fault_next, fault_sound, some_bytes}
use Rattle.buffa_ext_laws.proofs.strict_readings.packed_faults_are_these.Goals as goal

pub returns-clause-whole : goal.returns-clause-whole
returns-clause-whole c = λ w bs e. (fault_sound w bs e, fault_complete w bs e)

pub returns-clause-none : goal.returns-clause-none
returns-clause-none c = λ w. packed_end w [] refl

pub returns-clause-next : goal.returns-clause-next
returns-clause-next c = fault_next

pub returns-clause-fault : goal.returns-clause-fault
returns-clause-fault c = λ w bs e some h. packed_stops w bs e (some_bytes bs some) (payload_value_faulty w bs e h)
