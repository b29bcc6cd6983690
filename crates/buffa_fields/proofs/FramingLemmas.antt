-- What is proved of messages in fields, whatever the framing: of what is taken, and of sizes and encodings.
use Rattle.std.proofs.Common.{◌≡◌, ℕ, ◌+◌, List, [], ◌∷◌, ◌++◌, length, Option, Some, Result, Err, refl, sym, ap, subst, ◌∙◌, arith, append-nil, length-append}
use Rattle.buffa_bytes.proofs.FieldLemmas.{same_false}
use Rattle.buffa_bytes.specs.declared.error.DecodeError.{DecodeError}
use Rattle.buffa_bytes.specs.declared.error.EncodeError.{EncodeError}
use Rattle.buffa_bytes.specs.declared.wire_type.WireType.{WireType}
use Rattle.buffa_bytes.specs.Field.{Payload}
use Rattle.buffa_bytes.specs.Readings.{check_wire}
use Rattle.buffa_bytes.specs.Written.{Writes}
use Rattle.buffa_wire.proofs.PassLemmas.{written_put, written_same, written_short, written_then}
use Rattle.buffa_wire.specs.BudgetLeft.{BudgetLeft}
use Rattle.buffa_wire.specs.Cache.{Cache, advanced}
use Rattle.buffa_wire.specs.Encoding.{records_encoding}
use Rattle.buffa_wire.specs.Passes.{IsSmall, IsWritten, WritesIf, cap}
use Rattle.buffa_wire.specs.Pinned.{done, refusal}
use Rattle.buffa_wire.specs.Records.{FieldData}
use Rattle.buffa_wire.specs.Takes.{IsTaken, Charge, Taker}
use Rattle.buffa_fields.specs.Framing.{Frame, HoldsMessages, taken_as}
use Rattle.buffa_fields.proofs.InsideLemmas.{behind_slot, wire_taken}
use Rattle.buffa_fields.proofs.ValueLemmas.{wire_refused}

-- ---- fields of one wire type
-- one of another is none, whatever it costs
pub none_as : {X : Type 0} (wire : WireType) (makes : ℕ → X → List ℕ → Option X) (charge : Charge) (d n : ℕ) (w : WireType) (old : X) (bs : List ℕ) (before : BudgetLeft) (e : DecodeError) → check_wire n wire w ≡ Err e →
    IsTaken (taken_as wire makes) charge d old n w bs before (let r : Result (Unit {0}) DecodeError = Err e in r) old before bs
unfolding taken_as
none_as wire makes charge d n w old bs before e reported = wire_refused (taken_as wire makes) charge d n w old old bs bs before before e wire reported refl (λ other p. rw (same_false wire w other) refl)

-- one of the same number and wire type is as well taken
pub taken_here : {X T : Type 0} (takes : Taker X) (charge : Charge) (d n m : ℕ) (w wire : WireType) (old new : X) (bs rest : List ℕ) (before after : BudgetLeft) (r : Result T DecodeError) → m ≡ n → w ≡ wire →
    IsTaken takes charge d old m wire bs before r new after rest → IsTaken takes charge d old n w bs before r new after rest
taken_here takes charge d n m w wire old new bs rest before after r same is h =
    subst (λ z. IsTaken takes charge d old n z bs before r new after rest) (sym is) (subst (λ k. IsTaken takes charge d old k wire bs before r new after rest) same h)

-- a new message was read, which may take memory
pub read_as : {X : Type 0} (f : Frame) → HoldsMessages f → (merged : ℕ → X → List ℕ → Option X) (d : ℕ) (old new : X) (n : ℕ) (w : WireType) (bs p rest : List ℕ) → Payload d n w p → bs ≡ p ++ rest → taken_as f.wire (f.makes merged) d old n w p ≡ Some new → f.asks_new d n w bs
unfolding taken_as
read_as f holds merged d old new n w bs p rest h split is =
    let t = wire_taken f.wire w (f.makes merged d old p) new is in
    subst (λ z. f.asks_new d n z bs) (sym t.0) (holds.asks_read merged d n old new bs p rest (subst (λ z. Payload d n z p) t.0 h) split t.1)

-- ---- the encoding
module _ (f : Frame) (holds : HoldsMessages f) (n : ℕ) (e : List ℕ) (rs : List (ℕ × FieldData)) (is : e ≡ records_encoding rs) where
  abbrev spelled : List ℕ
  spelled = records_encoding ((n, f.field_data e rs) ∷ [])

  parts : f.head n (length e) ++ (e ++ f.tail n) ≡ spelled
  parts = holds.spelled n e rs is

  whole_length : length spelled ≡ length (f.head n (length e)) + (length e + length (f.tail n))
  whole_length = ap length (sym parts) ∙ omega (arith, length-append (f.head n (length e)) (e ++ f.tail n), length-append e (f.tail n))

  small_inside : IsSmall spelled → IsSmall e
  small_inside h = omega (arith, h, whole_length)

  -- behind the slot of the message's length
  module _ (slots : List ℕ) (inner : ℕ) (reported : inner ≡ cap (length e)) (c0 c1 : Cache) (on : c1 ≡ advanced 1 c0) (b0 b1 : List ℕ) where
    abbrev P : Type 0
    P = IsSmall spelled

    abbrev rest : List ℕ
    rest = e ++ f.tail n

    as_whole : (r : Result (Unit {0}) EncodeError) (c : Cache) (b : List ℕ) → WritesIf P (f.head n inner ++ rest) (slots ++ []) c1 b0 r c b → IsWritten spelled (cap (length e) ∷ slots) c0 b0 r c b
    as_whole r c b w =
        let same : P → f.head n inner ++ rest ≡ spelled = λ s. let one : inner ≡ length e = omega (arith, reported, small_inside s) in ap (λ k. f.head n k ++ rest) one ∙ parts in
        behind_slot spelled slots (cap (length e)) c0 c1 c b0 b on r (subst (λ (z : List ℕ). IsWritten spelled z c1 b0 r c b) (append-nil slots)
        (written_same P P (f.head n inner ++ rest) spelled (slots ++ []) 0 c1 c c b0 b (λ s. s) same r w))

    -- what stands before the message is cut off
    pub head_cut_off : (x : EncodeError) → Writes (refusal x) b0 (f.head n inner) b1 → IsWritten spelled (cap (length e) ∷ slots) c0 b0 (refusal x) c1 b1
    head_cut_off x h =
        as_whole (refusal x) c1 b1 (written_short P P P (f.head n inner) rest [] (slots ++ []) c1 c1 c1 b0 b1 b1 (λ s. s) x (written_put P (f.head n inner) c1 b0 b1 (refusal x) h))

    module _ (begun : b1 ≡ b0 ++ f.head n inner) where
      behind_head : (r : Result (Unit {0}) EncodeError) (c : Cache) (b : List ℕ) → WritesIf P rest (slots ++ []) c1 b1 r c b → IsWritten spelled (cap (length e) ∷ slots) c0 b0 r c b
      behind_head r c b w =
          as_whole r c b (written_then P P P (f.head n inner) rest [] (slots ++ []) c1 c1 c b0 b1 b (λ s. (s, s)) r (written_put P (f.head n inner) c1 b0 b1 done begun) w)

      -- the message is
      pub message_cut_off : (x : EncodeError) (c : Cache) (b : List ℕ) → IsWritten e slots c1 b1 (refusal x) c b → IsWritten spelled (cap (length e) ∷ slots) c0 b0 (refusal x) c b
      message_cut_off x c b w = behind_head (refusal x) c b (written_short (IsSmall e) P P e (f.tail n) slots [] c1 c c b1 b b small_inside x w)

      -- what stands behind the message is written last
      pub field_written : (r : Result (Unit {0}) EncodeError) (c : Cache) (b2 b3 : List ℕ) → IsWritten e slots c1 b1 done c b2 → Writes r b2 (f.tail n) b3 → IsWritten spelled (cap (length e) ∷ slots) c0 b0 r c b3
      field_written r c b2 b3 w v =
          behind_head r c b3 (written_then (IsSmall e) P P e (f.tail n) slots [] c1 c c b1 b2 b3 (λ s. (small_inside s, s)) r w (written_put P (f.tail n) c b2 b3 r v))
