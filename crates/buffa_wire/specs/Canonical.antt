-- Bytes that are the encoding of the message that they mean: of all its spellings, the one that is written.
use Rattle.std.specs.Prelude.{◌≡◌, ◌<◌, ◌^◌, ℕ, List, ◌++◌, codes, length, Option, Some}
use Rattle.buffa_bytes.specs.ErrorText.{decode_error_text}
use Rattle.buffa_wire.specs.declared.decode.CanonicalError.{CanonicalError}
use Rattle.buffa_wire.specs.declared.decode.CanonicalError.TheVariants.{Malformed, NotCanonical}

-- the bytes mean m, are its encoding, and are no longer than an encoding may be
pub record IsCanonical {X : Type 0} (meant : Option X) (encoding : X → List ℕ) (bytes : List ℕ) (m : X) : Type 0 where
  pub means : meant ≡ Some m
  pub encodes : encoding m ≡ bytes
  pub short : length bytes < 2 ^ 31

-- the text of a refusal
abbrev pub canonical_error_text : CanonicalError → List ℕ
canonical_error_text (Malformed fault) = codes "Malformed " ++ decode_error_text fault
canonical_error_text NotCanonical = codes "NotCanonical"
