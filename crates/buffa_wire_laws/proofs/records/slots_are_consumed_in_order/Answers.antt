use Rattle.buffa_wire.proofs.PassLemmas.{slots_are_next}
use Rattle.buffa_wire_laws.proofs.PinLemmas.{slots_are_consumed}
use Rattle.buffa_wire_laws.proofs.records.slots_are_consumed_in_order.Goals as goal

pub returns : goal.returns
returns c = record { reserved = slots_are_next; consumed = slots_are_consumed }
