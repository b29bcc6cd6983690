-- Varints: seven bits a byte, the lowest first.
use Rattle.std.specs.Prelude.{◌≡◌, ℕ, zero, suc, ◌+◌, ◌*◌, ◌/◌, ◌%◌, ◌^◌, ◌<◌, ◌≤◌, true, false, nat_lt, List, [], ◌∷◌, ◌++◌, length}
use Rattle.buffa_bytes.specs.declared.error.DecodeError.{DecodeError}
use Rattle.buffa_bytes.specs.declared.error.DecodeError.TheVariants.{UnexpectedEof, VarintTooLong}

-- the sum of (byte mod 128) times 128 to the power of the byte's place
abbrev pub base128 : List ℕ → ℕ
base128 [] = 0
base128 (b ∷ bs) = b % 128 + 128 * base128 bs

-- what a byte can hold
abbrev pub IsByte : ℕ → Type 0
IsByte b = b < 256

-- each of these bytes says that another one follows
abbrev pub Continue : List ℕ → Type 0
Continue [] = Unit {0}
Continue (b ∷ bs) = (128 ≤ b) × Continue bs

-- bytes is a spelling of n, which is below 2^64: bytes that continue and a last one below 128, at most ten
pub record IsVarint (bytes : List ℕ) (n : ℕ) : Type 0 where
  pub front : List ℕ
  pub last : ℕ
  pub spelled : bytes ≡ front ++ last ∷ []
  pub continue : Continue front
  pub ends : last < 128
  pub short : length front < 10
  pub value : n ≡ base128 bytes
  pub fits : n < 2 ^ 64

-- a spelling of n begins old, and new is what follows it
abbrev pub TakesVarint : List ℕ → ℕ → List ℕ → Type 0
TakesVarint old n new = (bytes : List ℕ) × IsVarint bytes n × (old ≡ bytes ++ new)

-- why no spelling begins these bytes: they end before a spelling does, or the tenth is neither 0 nor 1
abbrev pub VarintFault : List ℕ → DecodeError → Type 0
VarintFault bytes UnexpectedEof = Continue bytes × (length bytes < 10)
VarintFault bytes VarintTooLong = (front : List ℕ) × (b : ℕ) × (rest : List ℕ) × Continue front × (length front ≡ 9) × (2 ≤ b) × (bytes ≡ front ++ b ∷ rest)
VarintFault bytes _ = ⊥

-- the bytes of n, with room for k more after the first
unfoldable pub shortest : ℕ → ℕ → List ℕ
shortest zero n = n ∷ []
shortest (suc k) n = elim (nat_lt n 128) [ true ↦ n ∷ [] | false ↦ (n % 128 + 128) ∷ shortest k (n / 128) ]

-- the shortest spelling of n
unfoldable pub varint_encoding : ℕ → List ℕ
varint_encoding n = shortest n n
