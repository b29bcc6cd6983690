-- No length of the records of numbers is too large.
use Rattle.std.proofs.Common.{ℕ, Bool, true, false, List, [], ◌∷◌, ◌++◌}
use Rattle.buffa_wire.specs.Parse.{Fits}
use Rattle.buffa_wire.specs.Records.{FieldData, records_of, varint}
use Rattle.buffa_fields.specs.Values.{records_unless}

-- one may be left out
pub unless_fits : (t : Bool) (n x : ℕ) (rs : List (ℕ × FieldData)) → Fits (records_of rs) → Fits (records_of (records_unless t ((n, varint x) ∷ []) ++ rs))
unless_fits true n x rs k = k
unless_fits false n x rs k = (tt, k)
