use Rattle.buffa_map_laws.proofs.FieldWordLemmas.{enums_are_numbers, rewrites_are_fields}
use Rattle.buffa_map_laws.proofs.in_bytes.rewrites_are_their_fields.Goals as goal

pub returns-clause-enums : goal.returns-clause-enums
returns-clause-enums g c = enums_are_numbers

pub returns-clause-rewrites : goal.returns-clause-rewrites
returns-clause-rewrites g c d n cost map = rewrites_are_fields _ _ _ _ _ _
