use Rattle.buffa_bytes.proofs.ScalarLemmas.{unzigzag_zigzag, zigzag_unzigzag, zigzag_fits32, zigzag_fits64}
use Rattle.buffa_wire_laws.proofs.wire.zigzag_is_undone.Goals as goal

pub returns-clause-of_a_value : goal.returns-clause-of_a_value
returns-clause-of_a_value c = unzigzag_zigzag

pub returns-clause-of_a_number : goal.returns-clause-of_a_number
returns-clause-of_a_number c = zigzag_unzigzag

pub returns-clause-fits32 : goal.returns-clause-fits32
returns-clause-fits32 c = zigzag_fits32

pub returns-clause-fits64 : goal.returns-clause-fits64
returns-clause-fits64 c = zigzag_fits64
