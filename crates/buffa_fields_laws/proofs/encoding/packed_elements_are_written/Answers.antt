use Rattle.std.proofs.Common.{ℕ, List, [], ◌∷◌, ap}
use Rattle.buffa_wire.specs.Records.{FieldData, bytes}
use Rattle.buffa_fields_laws.proofs.RecordLemmas.{encodings_joined}
use Rattle.buffa_fields.specs.Lists.{packed_records}
use Rattle.buffa_fields_laws.proofs.encoding.packed_elements_are_written.Goals as goal

pub returns-clause-packed : goal.returns-clause-packed
unfolding packed_records
returns-clause-packed g c = λ n v vs. ap (λ (b : List ℕ). let rs : List (ℕ × FieldData) = (n, bytes b) ∷ [] in rs) (encodings_joined g.C.MapCodec.writing.encoding (v ∷ vs))
