-- What is proved of messages as members: of what is taken, and of sizes and encodings.
use Rattle.std.proofs.Common.{◌≡◌, ◌≢◌, ◌⊎◌, inl, inr, ℕ, zero, suc, ◌<◌, true, List, [], ◌∷◌, ◌++◌, length, Option, Result, Ok, Err, IfErr, IsOk, OnErr, OnOk, refl, sym, ap, subst, ◌∙◌, arith, Some}
use Rattle.buffa_bytes.proofs.DelimitedLemmas.{delimited_sound}
use Rattle.buffa_bytes.proofs.StepLemmas.{agree_err}
use Rattle.buffa_bytes.specs.declared.error.DecodeError.{DecodeError}
use Rattle.buffa_bytes.specs.declared.error.DecodeError.TheVariants.{OutOfMemory}
use Rattle.buffa_bytes.specs.declared.error.EncodeError.{EncodeError}
use Rattle.buffa_bytes.specs.declared.error.EncodeError.TheVariants as encode
use Rattle.buffa_bytes.specs.declared.wire_type.WireType.{WireType}
use Rattle.buffa_bytes.specs.declared.wire_type.WireType.TheVariants.{LengthDelimited}
use Rattle.buffa_bytes.specs.Written.{WritesFront}
use Rattle.buffa_wire.proofs.MessageLemmas.{NoLimit, length_no_limit}
use Rattle.buffa_wire.proofs.SpentLemmas.{takes_bytes}
use Rattle.buffa_wire.specs.BudgetLeft.{BudgetLeft, Lacks, PaysAtMost}
use Rattle.buffa_wire.specs.Cache.{Cache, advanced}
use Rattle.buffa_wire.specs.Message.{IsInside, MessageFault, cost_of_payload}
use Rattle.buffa_wire.specs.Passes.{IsWritten, cap}
use Rattle.buffa_bytes.specs.Readings.{check_wire, delimited_at, FullOnlyIf, same_wire}
use Rattle.buffa_wire.specs.Records.{bytes}
use Rattle.buffa_wire.specs.Encoding.{records_encoding}
use Rattle.buffa_fields.specs.Submessages.{MessageTakesMemory, message_cost, message_merged, inside}
use Rattle.buffa_wire.specs.Takes.{IsTaken, Charge, Untaken}
use Rattle.buffa_wire.specs.Pinned.{refusal}
use Rattle.buffa_fields.specs.facts.SubmessageFacts.{TellsLength, head, head_cut, record_after}
use Rattle.buffa_fields.specs.facts.FramingFacts.{delimited_holds}
use Rattle.buffa_fields.specs.Framings.{delimited}
use Rattle.buffa_fields.specs.facts.InsideFacts.{delimited_alone}
use Rattle.buffa_fields.proofs.FramingLemmas.{none_as, read_as}
use Rattle.buffa_fields.proofs.InsideLemmas.{alone_is, behind_slot, delimited_front, no_payload}
use Rattle.buffa_bytes.specs.Field.{Payload}
use Rattle.buffa_bytes.proofs.WireLemmas.{checked_same}
use Rattle.buffa_fields.specs.RepeatedMessages.{MessagesTakeMemory}

-- ---- the message of a whole payload
module _ {X : Type 0} (merged : ℕ → X → List ℕ → Option X) (cost : ℕ → List ℕ → BudgetLeft) where
  module _ (n : ℕ) (w : WireType) (checked : check_wire n LengthDelimited w ≡ Ok tt) (old new : X) (bs rest : List ℕ) (before after : BudgetLeft) where
    wire : w ≡ LengthDelimited
    wire = checked_same n LengthDelimited w checked

    inside_ok : (d : ℕ) → IsInside merged cost d old bs before new after rest → IsTaken (message_merged merged) (message_cost cost) d old n w bs before (let r : Result (Unit {0}) DecodeError = Ok tt in r) new after rest
    unfolding message_merged message_cost
    inside_ok d (b, is, m, pays) =
        let f = delimited_front d n w bs b rest wire is in
        let same : same_wire LengthDelimited w ≡ true = ap (same_wire LengthDelimited) wire in
        (f.0, f.1, f.2, rw (same, f.3) m, rw (wire, is) pays)

    why : (d : ℕ) (e : DecodeError) → MessageFault merged cost d old bs before e → Lacks before (message_cost cost d n w bs) ⊎ (Untaken (message_merged merged) d old n w bs × NoLimit e)
    unfolding message_merged message_cost
    why zero e is = inr ((λ p more payload split. let u = delimited_alone zero n w p more bs wire payload split in rw (wire, u.2) refl), subst (λ z. NoLimit z) (sym is) (λ l. l))
    why (suc d) e (inl is) = inr ((λ p more payload split. absurd (no_payload (suc d) n w p more bs e is wire payload split)), length_no_limit bs e (agree_err (delimited_at bs) e (delimited_sound bs) is))
    why (suc d) e (inr (b, after_b, is, inl lack)) = inl (rw (wire, is) lack)
    why (suc d) e (inr (b, after_b, is, inr (none, unlimited))) = inr ((λ p more payload split. rw (wire, alone_is (suc d) n w p more bs b after_b is wire payload split) none), unlimited)

    pub inside_taken : (d : ℕ) (r : Result (Unit {0}) DecodeError) → OnOk r (IsInside merged cost d old bs before new after rest) → IfErr r (λ e. e ≢ OutOfMemory → MessageFault merged cost d old bs before e) →
        OnErr r (PaysAtMost before (cost_of_payload cost d (delimited_at bs)) after) → IsTaken (message_merged merged) (message_cost cost) d old n w bs before r new after rest
    unfolding message_cost
    inside_taken d (Ok x) ok fault spent = inside_ok d ok
    inside_taken d (Err e) ok fault spent = (rw wire spent, λ ne. why d e (fault ne), λ full end. let two = sym wire ∙ end in cc)

-- a field of another wire type is none, whatever it costs
pub message_wire_err : {X : Type 0} (merged : ℕ → X → List ℕ → Option X) (charge : Charge) (d n : ℕ) (w : WireType) (old : X) (bs : List ℕ) (before : BudgetLeft) (e : DecodeError) → check_wire n LengthDelimited w ≡ Err e →
    IsTaken (message_merged merged) charge d old n w bs before (let r : Result (Unit {0}) DecodeError = Err e in r) old before bs
unfolding message_merged
message_wire_err merged charge d n w old bs before e reported = none_as LengthDelimited (λ d v p. inside merged d v (delimited_at p)) charge d n w old bs before e reported

-- ---- where it takes memory
pub inside_full : (d n : ℕ) (w : WireType) (bs : List ℕ) → check_wire n LengthDelimited w ≡ Ok tt → (r : Result (Unit {0}) DecodeError) → FullOnlyIf r ((0 < d) × IsOk (delimited_at bs)) →
    ((rest : List ℕ) → 0 < d → delimited_at bs ≡ Ok ([], rest) → IsOk r) → FullOnlyIf r (MessageTakesMemory d n w bs)
inside_full d n w bs checked (Ok x) full free = tt
inside_full d n w bs checked (Err e) full free = λ is.
    let may = full is in
    let some = takes_bytes bs (λ rest none. free rest may.0 none) may.1 in
    (checked_same n LengthDelimited w checked, may.0, some.0, some.1, some.2, some.3)

-- ---- the encoding, behind a slot
pub cap_tells : (inner : ℕ) (encoding : List ℕ) → inner ≡ cap (length encoding) → TellsLength inner encoding
cap_tells inner encoding is = ((λ h. omega (arith, is, h)), (λ h. omega (arith, is, h)))

module _ (n inner : ℕ) (encoding : List ℕ) (is : inner ≡ cap (length encoding)) (slots : List ℕ) (c0 c1 c2 : Cache) (b0 b1 b2 : List ℕ) (on : c1 ≡ advanced 1 c0) where
  abbrev spelled : List ℕ
  spelled = records_encoding ((n, bytes encoding) ∷ [])

  pub record_written : (r : Result (Unit {0}) EncodeError) → b1 ≡ b0 ++ head n inner → IsWritten encoding slots c1 b1 r c2 b2 → IsWritten spelled (cap (length encoding) ∷ slots) c0 b0 r c2 b2
  record_written r h w = behind_slot spelled slots (cap (length encoding)) c0 c1 c2 b0 b2 on r (record_after n inner encoding (cap_tells inner encoding is) slots c1 c2 b0 b1 b2 r h w)

  pub head_short : (e : EncodeError) → (e ≡ encode.OutOfMemory) × WritesFront b0 (head n inner) b1 → IsWritten spelled (cap (length encoding) ∷ slots) c0 b0 (refusal e) c1 b1
  head_short e h = behind_slot spelled slots (cap (length encoding)) c0 c1 c1 b0 b1 on (refusal e) (head_cut n inner encoding (cap_tells inner encoding is) slots c1 c1 b0 b1 b1 e h)

-- ---- lists of them
-- a message that was read had a level, and a length and so many bytes
pub message_there : {X : Type 0} (merged : ℕ → X → List ℕ → Option X) (d : ℕ) (old new : X) (n : ℕ) (w : WireType) (bs p rest : List ℕ) → Payload d n w p → bs ≡ p ++ rest → message_merged merged d old n w p ≡ Some new → MessagesTakeMemory d n w bs
unfolding message_merged
message_there merged d old new n w bs p rest h split is = read_as delimited delimited_holds merged d old new n w bs p rest h split is
