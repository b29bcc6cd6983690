use Rattle.buffa_within.proofs.within.ReadWithin.read_extension_within.Goals as goal

pub returns-clause-value : goal.returns-clause-value
returns-clause-value g c = rw (c.number.ensures, c.unknown_fields.ensures) at c.read_number.ensures.value
