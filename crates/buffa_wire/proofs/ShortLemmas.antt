-- Varints of one to three bytes.
use Rattle.std.proofs.Common.{◌≡◌, ℕ, ◌+◌, ◌/◌, ◌%◌, ◌<◌, ◌≤◌, List, [], ◌∷◌, ◌++◌, get_or, refl, sym, ap, subst, ◌∙◌, arith}
use Rattle.std.specs.Prelude.{Result}
use Rattle.buffa_bytes.specs.declared.error.EncodeError.{EncodeError}
use Rattle.buffa_bytes.specs.Scalars.{fixed32_encoding, fixed64_encoding}
use Rattle.buffa_bytes.specs.Varint.{varint_encoding}
use Rattle.buffa_bytes.specs.Written.{UsesRoom, Writes}
use Rattle.buffa_bytes.proofs.ShortestLemmas.{varint_encoding-last, varint_encoding-more}

pub encoding_one : (n a : ℕ) → n < 128 → a ≡ n → a ∷ [] ≡ varint_encoding n
encoding_one n a h e = ap (λ z. z ∷ []) e ∙ sym (varint_encoding-last n h)

pub encoding_two : (n a b : ℕ) → 128 ≤ n → n < 16384 → a ≡ n % 128 + 128 → b ≡ n / 128 → a ∷ b ∷ [] ≡ varint_encoding n
encoding_two n a b h k e f = let below : n / 128 < 128 = omega arith in
    rw (e, f) (ap (λ t. (n % 128 + 128) ∷ t) (sym (varint_encoding-last (n / 128) below)) ∙ sym (varint_encoding-more n h))

pub encoding_three : (n a b c : ℕ) → 16384 ≤ n → n < 2097152 → a ≡ n % 128 + 128 → b ≡ n / 128 % 128 + 128 → c ≡ n / 16384 → a ∷ b ∷ c ∷ [] ≡ varint_encoding n
encoding_three n a b c h k e f g =
    let large : 128 ≤ n = omega arith in
    let third : c ≡ n / 128 / 128 = omega arith in
    rw e (ap (λ t. (n % 128 + 128) ∷ t) (encoding_two (n / 128) b c (omega arith) (omega arith) f third) ∙ sym (varint_encoding-more n large))

-- an encoding that is written, by another name
pub writes_same : {T : Type 0} (r : Result T EncodeError) (old encoding same new : List ℕ) → encoding ≡ same → Writes r old encoding new → Writes r old same new
writes_same r old encoding same new e w = subst (λ t. Writes r old t new) e w

pub room_same : {T : Type 0} (r : Result T EncodeError) (room left : ℕ) (encoding same : List ℕ) → encoding ≡ same → UsesRoom r room encoding left → UsesRoom r room same left
room_same r room left encoding same e w = subst (λ t. UsesRoom r room t left) e w

-- bytes behind a number below 128
pub bytes_behind : (m : ℕ) (bytes : List ℕ) → m < 128 → m ∷ bytes ≡ varint_encoding m ++ bytes
bytes_behind m bytes h = rw (varint_encoding-last m h) refl

-- and where the bytes are told one by one
pub four_behind : (m v : ℕ) (bytes : List ℕ) → m < 128 → bytes ≡ fixed32_encoding v → m ∷ get_or bytes 0 0 ∷ get_or bytes 1 0 ∷ get_or bytes 2 0 ∷ get_or bytes 3 0 ∷ [] ≡ varint_encoding m ++ fixed32_encoding v
four_behind m v bytes h e = rw e (bytes_behind m (fixed32_encoding v) h)

pub eight_behind : (m v : ℕ) (bytes : List ℕ) → m < 128 → bytes ≡ fixed64_encoding v →
    m ∷ get_or bytes 0 0 ∷ get_or bytes 1 0 ∷ get_or bytes 2 0 ∷ get_or bytes 3 0 ∷ get_or bytes 4 0 ∷ get_or bytes 5 0 ∷ get_or bytes 6 0 ∷ get_or bytes 7 0 ∷ [] ≡ varint_encoding m ++ fixed64_encoding v
eight_behind m v bytes h e = rw e (bytes_behind m (fixed64_encoding v) h)

-- an encoding behind a number below 128
pub encoding_behind : (m n : ℕ) (encoding : List ℕ) → m < 128 → encoding ≡ varint_encoding n → m ∷ encoding ≡ varint_encoding m ++ varint_encoding n
encoding_behind m n encoding h e = bytes_behind m encoding h ∙ ap (λ z. varint_encoding m ++ z) e
