-- No length of the records of a count is too large.
use Rattle.std.proofs.Common.{ℕ, zero, suc}
use Rattle.buffa_wire.specs.Parse.{Fits}
use Rattle.buffa_wire.specs.Records.{records_of}
use Rattle.sample_types.specs.Count.{count_records}

pub count_fits : (n : ℕ) → Fits (records_of (count_records n))
count_fits zero = tt
count_fits (suc n) = (tt, count_fits n)
