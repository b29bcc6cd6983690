use Rattle.std.proofs.Common.{[], refl}
use Rattle.buffa_map_laws.proofs.CodecWordLemmas.{bytes_read, strings_read, these_read}
use Rattle.buffa_map_laws.proofs.in_bytes.strings_and_bytes_are_read_so.Goals as goal

pub returns-clause-string : goal.returns-clause-string
returns-clause-string g c = strings_read _ _

pub returns-clause-bytes : goal.returns-clause-bytes
returns-clause-bytes g c = these_read []

pub returns-clause-shared : goal.returns-clause-shared
returns-clause-shared g c = these_read []

pub returns-clause-own_string : goal.returns-clause-own_string
returns-clause-own_string g c = strings_read _ _

pub returns-clause-own_bytes : goal.returns-clause-own_bytes
returns-clause-own_bytes g c = bytes_read _ _

pub returns-clause-empty_string : goal.returns-clause-empty_string
returns-clause-empty_string g c d bs rest h = (refl, refl, rest, rw h refl)

pub returns-clause-empty_bytes : goal.returns-clause-empty_bytes
returns-clause-empty_bytes g c d bs rest h = (refl, refl, rest, rw h refl)

pub returns-clause-empty_shared : goal.returns-clause-empty_shared
returns-clause-empty_shared g c d bs rest h = (refl, refl, rest, rw h refl)
