-- What a write leaves of a sink.
use Rattle.std.specs.Prelude.{◌≡◌, ℕ, ◌+◌, ◌<◌, ◌≤◌, List, ◌++◌, length, Result}
use Rattle.std.specs.Result.{MatchResult}
use Rattle.buffa_bytes.specs.declared.error.EncodeError.{EncodeError}
use Rattle.buffa_bytes.specs.declared.error.EncodeError.TheVariants.{OutOfMemory}

-- a beginning of the encoding was written, and not all of it
abbrev pub WritesFront : List ℕ → List ℕ → List ℕ → Type 0
WritesFront old encoding new = (front : List ℕ) × (rest : List ℕ) × (encoding ≡ front ++ rest) × (new ≡ old ++ front) × (0 < length rest)

-- the encoding was written, or memory ran out before all of it was
abbrev pub Writes : {T : Type 0} → Result T EncodeError → List ℕ → List ℕ → List ℕ → Type 0
Writes r old encoding new = MatchResult r (λ _. new ≡ old ++ encoding) (λ e. (e ≡ OutOfMemory) × WritesFront old encoding new)

-- an encoding that fits is written, and takes no more room than it has bytes
abbrev pub UsesRoom : {T : Type 0} → Result T EncodeError → ℕ → List ℕ → ℕ → Type 0
UsesRoom r room encoding left = MatchResult r (λ _. room ≤ left + length encoding) (λ _. room < length encoding)
