-- How enums are read and written: as an int32. Source: the protobuf language guide, "Enumerations".
use Rattle.std.specs.Prelude.{◌≡◌, ℤ, Bool, true, false, cond, pos, Ok, FitsSigned, Option}
use Rattle.std.specs.Int.{cast_unsigned, w32, w64}
use Rattle.buffa_bytes.specs.PayloadValue.{number_in}
use Rattle.buffa_wire.specs.BudgetLeft.{nothing}
use Rattle.buffa_wire.specs.Enums.{Numbers, open_number}
use Rattle.buffa_bytes.specs.Values.{int32_of}
use Rattle.buffa_bytes.specs.declared.wire_type.WireType.TheVariants.{Varint}
use Rattle.buffa_map.specs.Codec.{Reading, Writing}
use Rattle.buffa_map.specs.Scalars.{int32_writing, number_reading, varint_writing}

-- ---- closed enums: a value means its number

-- a number that is declared is the value; for any other the value stands as it stood, and the payload isn't a declared one
abbrev pub closed_reading : Numbers → Reading ℤ
closed_reading e = record { blank = e.blank; wire = Varint; reads = λ d old c. let n : ℤ = int32_of (number_in c) in Ok (cond (e.declares n) (n, true) (old, false)); nested = false; undeclared = true; takes_memory = false; cost = λ d c. nothing }

abbrev pub closed_writing : Writing ℤ
closed_writing = int32_writing

-- the numbers of values
abbrev pub ClosedFits : Numbers → ℤ → Type 0
ClosedFits e n = FitsSigned w32 n × (e.declares n ≡ true)

-- ---- open enums: a value means whether it is declared, and its number

-- any number is a value
abbrev pub open_reading : {E : Type 0} → (ℤ → Option E) → Reading (Bool × ℤ)
open_reading of = number_reading Varint (open_number of (pos 0)) (λ n. open_number of (int32_of n))

abbrev pub open_writing : Writing (Bool × ℤ)
open_writing = varint_writing (λ v. cast_unsigned w64 v.1)

abbrev pub OpenFits : Bool × ℤ → Type 0
OpenFits v = FitsSigned w32 v.1

-- a number that is declared stands as the declared value
abbrev pub OpenNormal : {E : Type 0} → (ℤ → Option E) → Bool × ℤ → Type 0
OpenNormal of v = v ≡ open_number of v.1
