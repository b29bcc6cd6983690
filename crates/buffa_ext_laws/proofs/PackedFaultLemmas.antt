-- The fault of packed bytes is the one of their grammar.
use Rattle.std.proofs.Common.{◌≡◌, ◌≢◌, ℕ, zero, suc, ◌<◌, ◌≤◌, List, [], ◌∷◌, length, Some, Result, Ok, Err, refl, sym, subst, ◌∙◌, arith}
use Rattle.std.proofs.lemmas.Option.{same_Some}
use Rattle.buffa_bytes.specs.PayloadValue.{PayloadValue, PayloadValueFault, TakesPayloadValue, payload_value_at}
use Rattle.buffa_bytes.specs.declared.wire_type.WireType.{WireType}
use Rattle.buffa_bytes.specs.declared.error.DecodeError.{DecodeError}
use Rattle.buffa_bytes.proofs.StepLemmas.{agree_ok, agree_err}
use Rattle.buffa_bytes.proofs.PayloadValueLemmas.{payload_value_sound, payload_value_taken, payload_value_faulty}
use Rattle.buffa_codec.specs.PackedFacts.{numbers_shorten}
use Rattle.buffa_codec.specs.Strict.{packed_fault}
use Rattle.buffa_codec.specs.StrictFacts.{no_two, packed_end, packed_passes, packed_stops}
use Rattle.buffa_ext.specs.Strict.{FaultBehind}

not_empty : (bs : List ℕ) → 0 < length bs → bs ≢ []
not_empty [] h k = absurd (omega (arith, h))
not_empty (b ∷ bs) h k = cc

pub some_bytes : (bs : List ℕ) → bs ≢ [] → 0 < length bs
some_bytes [] h = absurd (h refl)
some_bytes (b ∷ bs) h = omega arith

-- ---- what is told lies behind whole payloads

behind_one : (w : WireType) (bs : List ℕ) (r : Result (PayloadValue × List ℕ) DecodeError) (e : DecodeError) → payload_value_at w bs ≡ r → 0 < length bs → packed_fault w bs ≡ Some e
    → ((c : PayloadValue) (rest : List ℕ) → payload_value_at w bs ≡ Ok (c, rest) → packed_fault w rest ≡ Some e → (cs : List PayloadValue) × FaultBehind w cs rest e)
    → (cs : List PayloadValue) × FaultBehind w cs bs e
behind_one w bs (Ok c) e same some h again =
    let k = again c.0 c.1 same (sym (packed_passes w bs c.1 c.0 some same) ∙ h) in
    (c.0 ∷ k.0, (c.1, agree_ok (payload_value_at w bs) c (payload_value_sound w bs) same, k.1))
behind_one w bs (Err f) e same some h again =
    ([], (not_empty bs some, subst (PayloadValueFault w bs) (same_Some f e (sym (packed_stops w bs f some same) ∙ h)) (agree_err (payload_value_at w bs) f (payload_value_sound w bs) same)))

all_behind : (w : WireType) (k : ℕ) (bs : List ℕ) (e : DecodeError) → length bs ≤ k → packed_fault w bs ≡ Some e → (cs : List PayloadValue) × FaultBehind w cs bs e
all_behind w k [] e h f = absurd (no_two (packed_fault w []) e (packed_end w [] refl) f)
all_behind w zero (b ∷ bs) e h f = absurd (omega (arith, h))
all_behind w (suc k) (b ∷ bs) e h f =
    behind_one w (b ∷ bs) (payload_value_at w (b ∷ bs)) e refl (omega arith) f (λ c rest same. all_behind w k rest e (omega (arith, numbers_shorten w (b ∷ bs) c rest same, h)))

pub fault_sound : (w : WireType) (bs : List ℕ) (e : DecodeError) → packed_fault w bs ≡ Some e → (cs : List PayloadValue) × FaultBehind w cs bs e
fault_sound w bs e f = all_behind w (length bs) bs e (omega arith) f

-- ---- what lies behind whole payloads is told

pub fault_next : (w : WireType) (bs rest : List ℕ) (c : PayloadValue) → TakesPayloadValue w bs c rest → packed_fault w bs ≡ packed_fault w rest
fault_next w bs rest c t =
    let same = payload_value_taken w bs c rest t in
    packed_passes w bs rest c (omega (arith, numbers_shorten w bs c rest same)) same

behind_found : (w : WireType) (cs : List PayloadValue) (bs : List ℕ) (e : DecodeError) → FaultBehind w cs bs e → packed_fault w bs ≡ Some e
behind_found w [] bs e h = packed_stops w bs e (some_bytes bs h.0) (payload_value_faulty w bs e h.1)
behind_found w (c ∷ cs) bs e (rest, t, more) =
    fault_next w bs rest c t ∙ behind_found w cs rest e more

pub fault_complete : (w : WireType) (bs : List ℕ) (e : DecodeError) → (cs : List PayloadValue) × FaultBehind w cs bs e → packed_fault w bs ≡ Some e
fault_complete w bs e (cs, h) = behind_found w cs bs e h
