-- What is proved of fields of closed enums whose undeclared numbers are put aside.
use Rattle.std.proofs.Common.{◌≡◌, ℕ, ℤ, ◌≤◌, ◌==◌, Bool, true, false, List, [], ◌∷◌, Option, Some, None, Result, Ok, Err, refl, sym, ap, ◌∙◌, append-nil, if◌then◌else◌}
use Rattle.std.specs.Int.{cast_unsigned, w64}
use Rattle.std.specs.Option.{option_map}
use Rattle.buffa_bytes.proofs.IntLemmas.{int32_below, int32_means}
use Rattle.buffa_bytes.proofs.VarintLemmas.{IsVarint-varint_encoding, varint_complete}
use Rattle.buffa_bytes.specs.declared.error.DecodeError.{DecodeError}
use Rattle.buffa_bytes.specs.declared.wire_type.WireType.{WireType}
use Rattle.buffa_bytes.specs.declared.wire_type.WireType.TheVariants.{Varint, Fixed64, LengthDelimited, StartGroup, EndGroup, Fixed32}
use Rattle.buffa_bytes.specs.Readings.{varint_at, ◌>>=◌, same_wire}
use Rattle.buffa_bytes.specs.Number.{IsNumber}
use Rattle.buffa_bytes.specs.Varint.{IsVarint, varint_encoding}
use Rattle.buffa_wire.specs.Enums.{Numbers}
use Rattle.buffa_wire.specs.Parse.{IsPayload}
use Rattle.buffa_wire.specs.Records.{FieldData, bytes, fixed32, fixed64, group, varint}
use Rattle.buffa_wire.specs.Encoding.{records_encoding, wire_of}
use Rattle.buffa_wire.specs.Takes.{ReadsBack, Stays}
use Rattle.buffa_map.specs.Enums.{ClosedFits}
use Rattle.buffa_fields.specs.UnknownsOfMembers.{Kept, kept_behind}
use Rattle.buffa_fields.specs.facts.ReadBackFacts.{no_pieces, one_back}
use Rattle.buffa_fields.specs.ClosedEnumFields.{IsUnknownNumber, kept_number_cost, kept_number_taken, number_put, one_number}
use Rattle.buffa_fields.specs.Values.{IfThere, some_records}

module _ (e : Numbers) where
  abbrev pub set : Option ℤ → ℤ → Option ℤ
  set old v = Some v

  abbrev read : ℕ → Option ℤ × Kept → ℕ × List ℕ → Result ((Option ℤ × Kept) × List ℕ) DecodeError
  read n x y = let z : (Option ℤ × Kept) × List ℕ = (number_put e set n x y.0, y.1) in Ok z

  -- an undeclared number is put behind those that are kept
  pub kept_number_behind : (d : ℕ) (v : Option ℤ) (kept : Kept) (n : ℕ) (w : WireType) (p : List ℕ) →
      kept_number_taken e d (v, kept) n w p ≡ option_map (kept_behind kept) (kept_number_taken e d (v, []) n w p)
  kept_number_behind d v kept n w p = at (same_wire Varint w) (varint_at p)
    where
      at : (t : Bool) (r : Result (ℕ × List ℕ) DecodeError) →
          (if t then one_number e (r >>= read n (v, kept)) else None) ≡ option_map (kept_behind kept) (if t then one_number e (r >>= read n (v, [])) else None)
      at true (Ok (k, [])) = refl
      at true (Ok (k, b ∷ bs)) = refl
      at true (Err f) = refl
      at false r = refl

  -- what it costs is known by the payload
  pub kept_number_stays : Stays (kept_number_cost e)
  kept_number_stays d n Varint p x (k, h) = rw (varint_complete p k x h, ap varint_at (sym (append-nil p)) ∙ varint_complete p k [] h) refl
  kept_number_stays d n Fixed64 p x h = refl
  kept_number_stays d n LengthDelimited p x h = refl
  kept_number_stays d n StartGroup p x h = refl
  kept_number_stays d n EndGroup p x h = refl
  kept_number_stays d n Fixed32 p x h = refl

  -- a whole varint
  pub number_taken : (d n k : ℕ) (p : List ℕ) (x : Option ℤ × Kept) → IsVarint p k → kept_number_taken e d x n Varint p ≡ Some (number_put e set n x k)
  number_taken d n k p x h = rw (ap varint_at (sym (append-nil p)) ∙ varint_complete p k [] h) refl

  -- an undeclared one is put aside again
  pub kept_number_again : (k d : ℕ) (v : Option ℤ) (x : FieldData) (p : List ℕ) → IsUnknownNumber e x → 0 ≤ d → IsPayload d k x p → kept_number_taken e d (v, []) k (wire_of x) p ≡ Some (v, (k, x) ∷ [])
  kept_number_again k d v (varint m) p unknowns low h = number_taken d k m p (v, []) h ∙ rw unknowns refl
  kept_number_again k d v (fixed32 m) p unknowns low h = absurd unknowns
  kept_number_again k d v (fixed64 m) p unknowns low h = absurd unknowns
  kept_number_again k d v (bytes m) p unknowns low h = absurd unknowns
  kept_number_again k d v (group m) p unknowns low h = absurd unknowns

  -- a declared one reads back
  pub kept_number_back : (n : ℕ) → IsNumber n → (d : ℕ) (v : Option ℤ) → IfThere (λ x. ClosedFits e x × Unit {0}) v →
      ReadsBack (kept_number_taken e) (λ m. m == n) d (None, []) (records_encoding (some_records (λ x. varint (cast_unsigned w64 x)) n v)) (v, [])
  kept_number_back n number d None h = no_pieces (kept_number_taken e) (λ m. m == n) d (None, [])
  kept_number_back n number d (Some v) h =
      let below = int32_below v h.0.0 in
      let is = IsVarint-varint_encoding (cast_unsigned w64 v) below in
      one_back (kept_number_taken e) n number Varint (varint_encoding (cast_unsigned w64 v)) d (None, []) (Some v, []) (records_encoding (some_records (λ x. varint (cast_unsigned w64 x)) n (Some v))) refl
      (cast_unsigned w64 v, is)
      (number_taken d n (cast_unsigned w64 v) (varint_encoding (cast_unsigned w64 v)) (None, []) is ∙ rw (int32_means v h.0.0, h.0.1) refl)
