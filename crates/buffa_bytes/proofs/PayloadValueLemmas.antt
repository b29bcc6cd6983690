-- What payloads hold: what is read of them, and the grammar.
use Rattle.std.proofs.Common.{◌≡◌, ◌<◌, ℕ, List, ◌++◌, length, Ok, Err, refl, sym, ap, ◌∙◌, append_assoc, arith, length-append}
use Rattle.buffa_bytes.specs.declared.wire_type.WireType.{WireType}
use Rattle.buffa_bytes.specs.declared.wire_type.WireType.TheVariants.{Varint, Fixed64, LengthDelimited, StartGroup, EndGroup, Fixed32}
use Rattle.buffa_bytes.specs.declared.error.DecodeError.{DecodeError}
use Rattle.buffa_bytes.specs.PayloadValue.{PayloadValue, HasPayloadValue, TakesPayloadValue, PayloadValueFault, payload_value_at}
use Rattle.buffa_bytes.specs.PayloadValue.PayloadValue.{number, bytes}
use Rattle.buffa_bytes.proofs.StepLemmas.{Agrees, agree_bind}
use Rattle.buffa_bytes.proofs.VarintLemmas.{varint_sound, varint_complete, varint_falls, varint_faulty}
use Rattle.buffa_bytes.proofs.DelimitedLemmas.{taken_sound, taken_complete, taken_faulty, delimited_sound, delimited_complete, delimited_faulty}

-- a payload has a byte
pub has_byte : (w : WireType) (p : List ℕ) (c : PayloadValue) → HasPayloadValue w p c → 0 < length p
has_byte Varint p (number n) h = varint_falls p n h
has_byte Fixed64 p (number n) h = omega (arith, h.0)
has_byte LengthDelimited p (bytes b) h = omega (arith, varint_falls h.0 (length b) h.1, ap length h.2, length-append h.0 b)
has_byte Fixed32 p (number n) h = omega (arith, h.0)
has_byte _ p c h = absurd h

pub payload_value_sound : (w : WireType) (bs : List ℕ) → Agrees (payload_value_at w bs) (λ c. TakesPayloadValue w bs c.0 c.1) (PayloadValueFault w bs)
payload_value_sound Varint bs = agree_bind (varint_sound bs) (λ n v. record { holds = v }) (λ e h. h)
payload_value_sound Fixed64 bs = agree_bind (taken_sound 8 bs) (λ p h. record { holds = (p.0, (h.0, refl), h.1) }) (λ e h. h)
payload_value_sound LengthDelimited bs = agree_bind (delimited_sound bs)
    (λ p h. record { holds = (h.0 ++ p.0, (h.0, h.1, refl), h.2 ∙ sym (append_assoc h.0 p.0 p.1)) })
    (λ e h. h)
payload_value_sound StartGroup bs = record { holds = refl }
payload_value_sound EndGroup bs = record { holds = refl }
payload_value_sound Fixed32 bs = agree_bind (taken_sound 4 bs) (λ p h. record { holds = (p.0, (h.0, refl), h.1) }) (λ e h. h)

pub payload_value_complete : (w : WireType) (p : List ℕ) (c : PayloadValue) (rest : List ℕ) → HasPayloadValue w p c → payload_value_at w (p ++ rest) ≡ Ok (c, rest)
payload_value_complete Varint p (number n) rest h = rw (varint_complete p n rest h) refl
payload_value_complete Fixed64 p (number n) rest h = rw (taken_complete 8 p rest h.0, h.1) refl
payload_value_complete LengthDelimited p (bytes b) rest (t, v, e) = rw (e, append_assoc t b rest, delimited_complete t b rest v) refl
payload_value_complete Fixed32 p (number n) rest h = rw (taken_complete 4 p rest h.0, h.1) refl
payload_value_complete _ p c rest h = absurd h

pub payload_value_taken : (w : WireType) (bs : List ℕ) (c : PayloadValue) (rest : List ℕ) → TakesPayloadValue w bs c rest → payload_value_at w bs ≡ Ok (c, rest)
payload_value_taken w bs c rest h = ap (payload_value_at w) h.2 ∙ payload_value_complete w h.0 c rest h.1

pub payload_value_faulty : (w : WireType) (bs : List ℕ) (e : DecodeError) → PayloadValueFault w bs e → payload_value_at w bs ≡ Err e
payload_value_faulty Varint bs e h = rw (varint_faulty bs e h) refl
payload_value_faulty Fixed64 bs e h = rw (taken_faulty 8 bs h.0) (ap (λ x. Err x) (sym h.1))
payload_value_faulty LengthDelimited bs e h = rw (delimited_faulty bs e h) refl
payload_value_faulty StartGroup bs e h = ap (λ x. Err x) (sym h)
payload_value_faulty EndGroup bs e h = ap (λ x. Err x) (sym h)
payload_value_faulty Fixed32 bs e h = rw (taken_faulty 4 bs h.0) (ap (λ x. Err x) (sym h.1))
