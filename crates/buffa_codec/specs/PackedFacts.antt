-- What the definition of packed numbers comes to.
use Rattle.std.proofs.Common.{◌≡◌, ℕ, ◌<◌, List, [], ◌∷◌, ◌++◌, length, map, Result, Ok, Err, refl, ap, ◌∙◌, arith}
use Rattle.std.proofs.lemmas.List.{length-append}
use Rattle.buffa_bytes.specs.declared.wire_type.WireType.{WireType}
use Rattle.buffa_bytes.specs.declared.error.DecodeError.{DecodeError}
use Rattle.buffa_bytes.specs.PayloadValue.{PayloadValue, HasPayloadValue, payload_value_at, number_in}
use Rattle.buffa_bytes.specs.PayloadValue.PayloadValue.{number}
use Rattle.buffa_bytes.proofs.StepLemmas.{agree_ok}
use Rattle.buffa_bytes.proofs.PayloadValueLemmas.{payload_value_sound, payload_value_complete, has_byte}
use Rattle.buffa_bytes.specs.Scan.{step_then}
use Rattle.buffa_bytes.proofs.ScanLemmas.{Shortens, scan_step}
use Rattle.buffa_codec.specs.Packed.{number_then, numbers_in}

payload_value_less : (w : WireType) (bs : List ℕ) (c : PayloadValue × List ℕ) → payload_value_at w bs ≡ Ok c → length c.1 < length bs
payload_value_less w bs c e =
    let t = agree_ok (payload_value_at w bs) c (payload_value_sound w bs) e in
    omega (arith, has_byte w t.0 c.0 t.1, ap length t.2, length-append t.0 c.1)

-- a payload that is read takes a byte
short : (w : WireType) (bs : List ℕ) (r : Result (PayloadValue × List ℕ) DecodeError) → payload_value_at w bs ≡ r → Shortens (number_then r) bs
short w bs (Ok c) e = payload_value_less w bs c e
short w bs (Err f) e = tt

-- the payload at the front, and then those behind it
numbers_at : (w : WireType) (bs : List ℕ) (r : Result (PayloadValue × List ℕ) DecodeError) → payload_value_at w bs ≡ r → numbers_in w bs ≡ step_then (λ _. numbers_in w) (number_then r)
unfolding numbers_in
numbers_at w bs r e = scan_step (λ _ rest. number_then (payload_value_at w rest)) [] (λ _ rest. short w rest (payload_value_at w rest) refl) tt bs ∙ ap (λ z. step_then (λ _. numbers_in w) (number_then z)) e

-- the number of the payload at the front, and those that follow
pub numbers_step : (w : WireType) (bs : List ℕ) (c : PayloadValue) (rest : List ℕ) → payload_value_at w bs ≡ Ok (c, rest) → numbers_in w bs ≡ number_in c ∷ numbers_in w rest
numbers_step w bs c rest e = numbers_at w bs (Ok (c, rest)) e

pub numbers_end : (w : WireType) (bs : List ℕ) (f : DecodeError) → payload_value_at w bs ≡ Err f → numbers_in w bs ≡ []
numbers_end w bs f e = numbers_at w bs (Err f) e

pub numbers_shorten : (w : WireType) (bs : List ℕ) (c : PayloadValue) (rest : List ℕ) → payload_value_at w bs ≡ Ok (c, rest) → length rest < length bs
numbers_shorten w bs c rest e = payload_value_less w bs (c, rest) e

pub number_unpacks : {M : Type 0} (w : WireType) (of : ℕ → M) (p : List ℕ) (n : ℕ) (v : M) (rest : List ℕ) → HasPayloadValue w p (number n) → of n ≡ v
    → map of (numbers_in w (p ++ rest)) ≡ v ∷ map of (numbers_in w rest)
number_unpacks w of p n v rest h e =
    ap (map of) (numbers_step w (p ++ rest) (number n) rest (payload_value_complete w p (number n) rest h)) ∙ ap (λ x. x ∷ map of (numbers_in w rest)) e

none_at : (w : WireType) (r : Result (PayloadValue × List ℕ) DecodeError) → payload_value_at w [] ≡ r → numbers_in w [] ≡ []
none_at w (Ok c) e = absurd (omega (arith, payload_value_less w [] c e))
none_at w (Err f) e = numbers_end w [] f e

pub numbers_in_none : (w : WireType) → numbers_in w [] ≡ []
numbers_in_none w = none_at w (payload_value_at w []) refl

pub none_unpacked : {M : Type 0} (w : WireType) (of : ℕ → M) → map of (numbers_in w []) ≡ []
none_unpacked w of = ap (map of) (numbers_in_none w)
