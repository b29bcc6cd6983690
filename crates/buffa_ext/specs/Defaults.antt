-- Declared defaults.
use Rattle.std.specs.Prelude.{ℕ, ◌⊎◌, List, Option, Some, None}
use Rattle.buffa_wire.specs.Records.{FieldData, Held}
use Rattle.buffa_codec.specs.RecordsOfNumber.{sub}

-- the records of a number are read as that
abbrev pub ReadsNumber : {V A : Type 0} → (List FieldData → A → Type 0) → (Option V → A) → ℕ → Held → Option V → Type 0
ReadsNumber reads answer n held o = reads (sub n held.records) (answer o)

-- the value is the one that is read, else a declared one, else the blank
abbrev pub IsDefaulted : {V : Type 0} → (Option V → Type 0) → (Option V → Type 0) → Type 0 → V → Type 0
IsDefaulted reads declared blank v = reads (Some v) ⊎ (reads None × (declared (Some v) ⊎ (declared None × blank)))

-- the reading takes memory; or no value is read, and making the declared one may be refused
abbrev pub IsRefused : {V : Type 0} → Type 0 → (Option V → Type 0) → Type 0 → Type 0
IsRefused asks reads refuses = asks ⊎ (reads None × refuses)
