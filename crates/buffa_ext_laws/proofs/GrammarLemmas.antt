-- The reading of packed numbers is their grammar.
use Rattle.std.proofs.Common.{◌≡◌, ℕ, zero, suc, ◌≤◌, List, [], ◌∷◌, length, Result, Ok, Err, refl, sym, ap, ◌∙◌, subst, arith}
use Rattle.buffa_bytes.specs.declared.wire_type.WireType.{WireType}
use Rattle.buffa_bytes.specs.declared.error.DecodeError.{DecodeError}
use Rattle.buffa_bytes.specs.PayloadValue.{PayloadValue, payload_value_at}
use Rattle.buffa_bytes.proofs.StepLemmas.{agree_ok, agree_err}
use Rattle.buffa_bytes.proofs.PayloadValueLemmas.{payload_value_sound, payload_value_taken, payload_value_faulty}
use Rattle.buffa_codec.specs.Packed.{numbers_in}
use Rattle.buffa_codec.specs.PackedFacts.{numbers_step, numbers_end, numbers_shorten}
use Rattle.buffa_ext_laws.specs.PackedGrammar.{ArePacked}

-- ---- what is read is packed

one_by : (w : WireType) (bs : List ℕ) (r : Result (PayloadValue × List ℕ) DecodeError) → payload_value_at w bs ≡ r
    → ((c : PayloadValue) (rest : List ℕ) → payload_value_at w bs ≡ Ok (c, rest) → ArePacked w (numbers_in w rest) rest)
    → ArePacked w (numbers_in w bs) bs
one_by w bs (Ok c) e again =
    subst (λ ns. ArePacked w ns bs) (sym (numbers_step w bs c.0 c.1 e))
    (c.0, c.1, agree_ok (payload_value_at w bs) c (payload_value_sound w bs) e, refl, again c.0 c.1 e)
one_by w bs (Err f) e again =
    subst (λ ns. ArePacked w ns bs) (sym (numbers_end w bs f e)) (f, agree_err (payload_value_at w bs) f (payload_value_sound w bs) e)

all_by : (w : WireType) (k : ℕ) (bs : List ℕ) → length bs ≤ k → ArePacked w (numbers_in w bs) bs
all_by w zero bs h = one_by w bs (payload_value_at w bs) refl (λ c rest e. absurd (omega (arith, numbers_shorten w bs c rest e, h)))
all_by w (suc k) bs h = one_by w bs (payload_value_at w bs) refl (λ c rest e. all_by w k rest (omega (arith, numbers_shorten w bs c rest e, h)))

pub packed_sound : (w : WireType) (bs ns : List ℕ) → numbers_in w bs ≡ ns → ArePacked w ns bs
packed_sound w bs ns e = subst (λ ms. ArePacked w ms bs) e (all_by w (length bs) bs (omega arith))

-- ---- what is packed is read

pub packed_complete : (w : WireType) (bs ns : List ℕ) → ArePacked w ns bs → numbers_in w bs ≡ ns
packed_complete w bs [] (f, h) = numbers_end w bs f (payload_value_faulty w bs f h)
packed_complete w bs (n ∷ ns) (c, rest, t, e, more) =
    numbers_step w bs c rest (payload_value_taken w bs c rest t)
    ∙ ap (λ x. x ∷ numbers_in w rest) (sym e)
    ∙ ap (λ l. n ∷ l) (packed_complete w rest ns more)
