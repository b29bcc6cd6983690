-- Strings and bytes in a type of one's own: what is read of their encodings.
-- Source: the protobuf encoding guide, "Length-Delimited Records".
use Rattle.std.specs.Prelude.{◌≡◌, ◌≢◌, ◌⊎◌, ℕ, List, [], true, Result, Ok, Err, if◌then◌else◌, String, string_bytes}
use denote.Param.Members.{Mut}
use denote.Ref.{Bor}
use Rattle.std.specs.Fn.{CalledAt}
use Rattle.std.specs.Str.{is_utf8}
use Rattle.std.proofs.lemmas.Str.{is_utf8-from_IsUtf8, IsUtf8-string_bytes}
use Rattle.buffa_bytes.specs.declared.error.DecodeError.{DecodeError}
use Rattle.buffa_bytes.specs.declared.error.DecodeError.TheVariants.{InvalidUtf8, OutOfMemory}
use Rattle.buffa_bytes.specs.Readings.{delimited_at, ◌>>=◌}

-- what these bytes mean by of, if they are UTF-8
abbrev pub text_as : {A : Type 0} → (List ℕ → A) → List ℕ → Result A DecodeError
text_as of bytes = if is_utf8 bytes then Ok (of bytes) else Err InvalidUtf8

-- what the string at the front means by of, and what follows it
abbrev pub string_as : {A : Type 0} → (List ℕ → A) → List ℕ → Result (A × List ℕ) DecodeError
string_as of bs = delimited_at bs >>= (λ p. text_as of p.0 >>= (λ v. Ok (v, p.1)))

-- what the bytes at the front mean by of, and what follows them
abbrev pub bytes_as : {A : Type 0} → (List ℕ → A) → List ℕ → Result (A × List ℕ) DecodeError
bytes_as of bs = delimited_at bs >>= (λ p. Ok (of p.0, p.1))

-- f was given the bytes at the front, answered r and is f' now, and left follows them; or memory ran out, of a byte or
-- more, and f was given nothing; or no such bytes are there, and r says why
abbrev pub Lends : {F T : Type 0} → Mut F (Bor (List ℕ) × Unit {0}) (Result T DecodeError) → F → Result (List ℕ × List ℕ) DecodeError → Result T DecodeError → F → List ℕ → Type 0
Lends g f (Ok (bytes, rest)) r f' left =
    (CalledAt g f bytes r f' × (left ≡ rest)) ⊎ ((r ≡ Err OutOfMemory) × (f' ≡ f) × (bytes ≢ []))
Lends g f (Err e) r f' left = (r ≡ Err e) × (f' ≡ f)

-- the bytes of a string are UTF-8
pub string_is_text : {Z : Type 0} (s : String Z) → is_utf8 (string_bytes s) ≡ true
string_is_text s = is_utf8-from_IsUtf8 (string_bytes s) (IsUtf8-string_bytes s)
