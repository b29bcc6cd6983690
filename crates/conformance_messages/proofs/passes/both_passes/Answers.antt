use Rattle.std.proofs.Common.{refl}
use Rattle.buffa_wire.proofs.PassLemmas.{slots_are_next}
use Rattle.conformance_messages.proofs.passes.both_passes.Goals as goal

pub write_field-requires : goal.write_field-requires
write_field-requires g c = λ κs. ((refl, tt), (c.requires.number, rw c.in_ok-size.ensures.2 (slots_are_next _ _ c.requires.behind)))
