-- What the two passes promise that write a message: the one sizes it, the other writes it.
use Rattle.std.specs.Prelude.{◌≡◌, ℕ, ◌-◌, ◌<◌, ◌≤◌, ◌^◌, List, ◌++◌, length, min, Result, MatchResult}
use Rattle.buffa_bytes.specs.declared.error.EncodeError.{EncodeError}
use Rattle.buffa_bytes.specs.declared.error.EncodeError.TheVariants.{OutOfMemory}
use Rattle.buffa_wire.specs.Cache.{Cache, left, appended, advanced}

-- a length as a number of 32 bits, which a greater one doesn't pass
abbrev pub cap : ℕ → ℕ
cap n = min n (2 ^ 32 - 1)

-- a message of this encoding isn't too large to be written
abbrev pub IsSmall : List ℕ → Type 0
IsSmall encoding = length encoding < 2 ^ 31

-- the old slots come first, and nothing was consumed
abbrev pub IsLonger : Cache → Cache → Type 0
IsLonger old new = (more : List ℕ) × (new ≡ appended more old)

-- the size pass over a value of this encoding and these slots
abbrev pub IsSized : List ℕ → List ℕ → Cache → Result ℕ EncodeError → Cache → Type 0
IsSized encoding slots old r new =
    MatchResult r (λ n. (n ≡ cap (length encoding)) × (new ≡ appended slots old)) (λ e. (e ≡ OutOfMemory) × IsLonger old new)

-- the next slots are these
abbrev pub IsNext : List ℕ → Cache → Type 0
IsNext slots c = (rest : List ℕ) × (left c ≡ slots ++ rest)

-- bs begins the encoding, and isn't all of it
abbrev pub Begins : List ℕ → List ℕ → Type 0
Begins bs encoding = (rest : List ℕ) × (encoding ≡ bs ++ rest) × (0 < length rest)

-- some of these slots were consumed, in order, and nothing else changed
abbrev pub Consumes : List ℕ → Cache → Cache → Type 0
Consumes slots old new = (n : ℕ) × (n ≤ length slots) × (new ≡ advanced n old)

-- the write pass over it: the sink's old bytes stay first, and these slots are consumed; where the premise holds the
-- encoding is written, or a beginning of it, and not all, if memory runs out, and of the slots some are consumed then
abbrev pub WritesIf : {T : Type 0} → Type 0 → List ℕ → List ℕ → Cache → List ℕ → Result T EncodeError → Cache → List ℕ → Type 0
WritesIf small encoding slots old before r new after =
    (bs : List ℕ) × (after ≡ before ++ bs)
    × MatchResult r
    (λ _. (new ≡ advanced (length slots) old) × (small → bs ≡ encoding))
    (λ e. (e ≡ OutOfMemory) × (small → Begins bs encoding) × Consumes slots old new)

-- the same of a message, whose encoding is written where it isn't too large
abbrev pub IsWritten : {T : Type 0} → List ℕ → List ℕ → Cache → List ℕ → Result T EncodeError → Cache → List ℕ → Type 0
IsWritten encoding slots old before r new after = WritesIf (IsSmall encoding) encoding slots old before r new after
