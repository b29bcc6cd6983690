-- One turn of a loop over packed numbers.
use Rattle.std.proofs.Common.{◌≡◌, ◌<◌, ◌≤◌, ◌+◌, ◌-◌, ℕ, List, [], ◌∷◌, ◌++◌, map, take, length, false, true, Result, Ok, Err, sym, ap, ◌∙◌, append_assoc, append-nil, arith}
use Rattle.std.specs.Result.{OnErr}
use Rattle.std.proofs.lemmas.Grind.{common_steps}
use Rattle.std.proofs.lemmas.List.{length-append, length-map, map-append}
use Rattle.std.proofs.Math.Seq.{take-append_seam}
use Rattle.buffa_bytes.specs.declared.wire_type.WireType.{WireType}
use Rattle.buffa_bytes.specs.declared.error.DecodeError.{DecodeError}
use Rattle.buffa_bytes.specs.PayloadValue.{payload_value_at}
use Rattle.buffa_bytes.specs.PayloadValue.PayloadValue.{number}
use Rattle.buffa_codec.specs.Packed.{numbers_in}
use Rattle.buffa_codec.specs.Decoded.{AddsSomeValues}
use Rattle.buffa_codec.specs.PackedFacts.{numbers_step, numbers_end}

-- what was put behind the old values so far
abbrev pub Packs : {V M : Type 0} → WireType → (V → M) → (ℕ → M) → List ℕ → List ℕ → List V → List V → ℕ → ℕ → Type 0
Packs w meaning of all rest old now places left =
    (done : List ℕ) × (map meaning now ≡ map meaning old ++ map of done) × (numbers_in w all ≡ done ++ numbers_in w rest) × (places ≤ left + length done)

pub packs_more : {V M : Type 0} (w : WireType) (meaning : V → M) (of : ℕ → M) (all rest left : List ℕ) (n : ℕ) (old now next : List V) (v : V) (places before after : ℕ)
    → payload_value_at w rest ≡ Ok (number n, left) → Packs w meaning of all rest old now places before → meaning v ≡ of n → next ≡ now ++ v ∷ [] → before ≤ after + 1
    → Packs w meaning of all left old next places after
packs_more w meaning of all rest left n old now next v places before after e h m more one = (
  h.0 ++ n ∷ [],
  ap (map meaning) more ∙ map-append meaning now (v ∷ []) ∙ ap (λ l. l ++ meaning v ∷ []) h.1 ∙ append_assoc (map meaning old) (map of h.0) (meaning v ∷ [])
      ∙ ap (λ x. map meaning old ++ (map of h.0 ++ x ∷ [])) m ∙ ap (λ l. map meaning old ++ l) (sym (map-append of h.0 (n ∷ []))),
  h.2 ∙ ap (λ l. h.0 ++ l) (numbers_step w rest (number n) left e) ∙ sym (append_assoc h.0 (n ∷ []) (numbers_in w left)),
  omega (arith, h.3, one, length-append h.0 (n ∷ [])),
)

-- one more number is there than those so far
numbers_less : {M : Type 0} (w : WireType) (of : ℕ → M) (all rest left done : List ℕ) (n : ℕ) → payload_value_at w rest ≡ Ok (number n, left)
    → numbers_in w all ≡ done ++ numbers_in w rest → length done < length (map of (numbers_in w all))
numbers_less w of all rest left done n e whole =
    omega (arith, length-map (numbers_in w all) of, ap length (whole ∙ ap (λ l. done ++ l) (numbers_step w rest (number n) left e)), length-append done (n ∷ numbers_in w left))

pub packs_front : {V M T E : Type 0} (r : Result T E) (w : WireType) (meaning : V → M) (of : ℕ → M) (all rest left : List ℕ) (n : ℕ) (old now next : List V) (places before : ℕ)
    → payload_value_at w rest ≡ Ok (number n, left) → Packs w meaning of all rest old now places before → next ≡ now → OnErr r (AddsSomeValues meaning old (map of (numbers_in w all)) next)
packs_front (Ok u) w meaning of all rest left n old now next places before f h e = tt
packs_front (Err u) w meaning of all rest left n old now next places before f h e = (
  length (map of h.0),
  omega (arith, length-map h.0 of, numbers_less w of all rest left h.0 n f h.2),
  ap (map meaning) e ∙ h.1 ∙ ap (λ l. map meaning old ++ l)
      (sym (ap (take (length (map of h.0))) (ap (map of) h.2 ∙ map-append of h.0 (numbers_in w rest)) ∙ take-append_seam (map of h.0) (map of (numbers_in w rest)))),
)

-- a vector that has no place left
pub full_by : (len capacity : ℕ) → (len < capacity → false ≡ true) → capacity - len ≤ 0
full_by len capacity h = grind (arith, common_steps)

-- no place was left, so there are more values than places
pub packs_full : {V M : Type 0} (w : WireType) (meaning : V → M) (of : ℕ → M) (all rest left : List ℕ) (n : ℕ) (old now : List V) (places before : ℕ)
    → payload_value_at w rest ≡ Ok (number n, left) → Packs w meaning of all rest old now places before → before ≤ 0 → places < length (map of (numbers_in w all))
packs_full w meaning of all rest left n old now places before f h none = omega (arith, h.3, none, numbers_less w of all rest left h.0 n f h.2)

-- each value has taken a place at most
pub packs_room : {V M : Type 0} (w : WireType) (meaning : V → M) (of : ℕ → M) (all rest : List ℕ) (f : DecodeError) (old now : List V) (places before : ℕ)
    → payload_value_at w rest ≡ Err f → Packs w meaning of all rest old now places before → places ≤ before + length (map of (numbers_in w all))
packs_room w meaning of all rest f old now places before e h =
    omega (arith, h.3, length-map (numbers_in w all) of, ap length (h.2 ∙ ap (λ l. h.0 ++ l) (numbers_end w rest f e) ∙ append-nil h.0))

pub packs_end : {V M : Type 0} (w : WireType) (meaning : V → M) (of : ℕ → M) (all rest : List ℕ) (f : DecodeError) (old now : List V) (places before : ℕ)
    → payload_value_at w rest ≡ Err f → Packs w meaning of all rest old now places before → map meaning now ≡ map meaning old ++ map of (numbers_in w all)
packs_end w meaning of all rest f old now places before e h =
    h.1 ∙ ap (λ l. map meaning old ++ map of l) (sym (h.2 ∙ ap (λ l. h.0 ++ l) (numbers_end w rest f e) ∙ append-nil h.0))
