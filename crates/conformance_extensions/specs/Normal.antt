-- Messages of which a test says that they are read back.
use Rattle.std.specs.Prelude.{ℕ, ◌≤◌, List}
use Rattle.buffa_wire.specs.Parse.{AreValid, Fits}
use Rattle.buffa_wire.specs.Records.{FieldData, height, records_of}

-- a message is read back of its encoding, where its cost is left: its type says so, it isn't too deep, and no length in it is
-- 2^64 or more
abbrev pub IsNormal : Type 0 → ℕ → List (ℕ × FieldData) → Type 0
IsNormal normal levels records = normal × (levels ≤ 100) × Fits (records_of records)

-- records are valid, no length in them is 2^64 or more, and their groups nest at most so many levels deep
abbrev pub AreWritten : ℕ → List (ℕ × FieldData) → Type 0
AreWritten levels rs = AreValid (records_of rs) × Fits (records_of rs) × (height rs ≤ levels)
