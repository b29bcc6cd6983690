-- What is proved of merging fields into messages that hold themselves.
use Rattle.std.proofs.Common.{◌≡◌, ◌≢◌, ℕ, List, Result, Ok, Err, OnOk, IfErr, refl, sym, subst}
use Rattle.buffa_bytes.specs.Readings.{FullOnlyIf}
use Rattle.buffa_bytes.specs.declared.error.DecodeError.{DecodeError}
use Rattle.buffa_bytes.specs.declared.wire_type.WireType.{WireType}
use Rattle.buffa_bytes.specs.declared.wire_type.WireType.TheVariants.{EndGroup}
use Rattle.buffa_wire.proofs.ByPayloadLemmas.{ByPayload, by_payload}
use Rattle.buffa_wire.proofs.TakesLemmas.{taken_merges}
use Rattle.buffa_wire.specs.BudgetLeft.{BudgetLeft}
use Rattle.buffa_wire.specs.Message.{IsFieldMerged}
use Rattle.buffa_wire.specs.Takes.{IsTaken, merged_of}
use Rattle.buffa_fields.specs.Schema.{Schema}
use Rattle.buffa_fields.specs.facts.SchemaFacts.{full_of, refused_of}
use Rattle.buffa_fields.specs.facts.FieldAndOthersFacts.{part_taken}
use Rattle.buffa_fields.specs.RefusedMessage.{IsMemberRefused}
use Rattle.buffa_recursive.specs.facts.TakenByAnotherFacts.{is_taken_through}
use Rattle.buffa_recursive.specs.RecursiveSchema.{RecursiveSchema, whole_takes}
use Rattle.buffa_recursive.specs.RefusedFields.{IsSelfRefused}
use Rattle.buffa_recursive.specs.Layers.{IsSound}
use Rattle.buffa_recursive.specs.Fixpoint.{semantics, message_schema}
use Rattle.buffa_recursive.specs.facts.FixpointFacts.{cost_is, merged_is}
use Rattle.buffa_recursive.specs.InnerMessages.{Semantics}

module _ {X : Type 0} (each : ℕ) (o : RecursiveSchema X) (sound : IsSound o) where
  abbrev t : Semantics X
  t = semantics each o sound

  abbrev l : Schema X o.Y
  l = message_schema each o sound

  pub by_self : ByPayload (whole_takes o t) l.charge t.merged t.cost
  by_self = by_payload l.stays (λ d v b. λ i. merged_is each o sound d i v b) (λ d b. λ i. cost_is each o sound d i b)

  module _ (d : ℕ) (old new : X) (n : ℕ) (w : WireType) (bs rest : List ℕ) (before after : BudgetLeft) where
    by_parts : (r : Result (Unit {0}) DecodeError) → OnOk r (o.into (o.out new) ≡ new) → IsTaken l.takes l.charge d (o.out old) n w bs before r (o.out new) after rest → IsTaken (whole_takes o t) l.charge d old n w bs before r new after rest
    by_parts (Ok x) again h = is_taken_through o.into o.out l.takes l.charge d n w old new bs rest before after (Ok x) again h
    by_parts (Err e) again h = part_taken l.takes l.charge (whole_takes o t) l.charge d n w (o.out old) old o.into (λ p. refl) (λ b. refl) bs rest before after (Err e) (o.out new) h

    module _ (r : Result (Unit {0}) DecodeError) (taken : l.Taken d old n w bs before r new after rest) where
      whole_taken : OnOk r (o.into (o.out new) ≡ new) → IsTaken (whole_takes o t) l.charge d old n w bs before r new after rest
      whole_taken again =
          by_parts r again
          (subst (λ y. IsTaken l.takes l.charge d y n w bs before r (o.out new) after rest) (o.meaning_is t old)
          (subst (λ y. IsTaken l.takes l.charge d (l.meaning old) n w bs before r y after rest) (o.meaning_is t new) (l.taken_is d old n w bs before r new after rest taken)))

      -- the message merged the field
      pub self_merged : OnOk r (o.into (o.out new) ≡ new) → IsFieldMerged t.merged t.cost d old n w bs before r new after rest
      self_merged again =
          let m = taken_merges (whole_takes o t) d l.charge l.stays r old new n w bs rest before after (whole_taken again) in
          subst (λ f. IsFieldMerged f t.cost d old n w bs before r new after rest) (λ i e. sym (merged_is each o sound e) i)
          (subst (λ f. IsFieldMerged (merged_of (whole_takes o t)) f d old n w bs before r new after rest) (λ i e. sym (cost_is each o sound e) i) m)

      pub self_refused : IfErr r (λ e. IsSelfRefused each o sound d old n w bs before e new)
      self_refused =
          subst (λ y. IfErr r (λ e. IsMemberRefused l d y n w bs before e (o.out new))) (o.meaning_is t old)
          (subst (λ y. IfErr r (λ e. IsMemberRefused l d (l.meaning old) n w bs before e y)) (o.meaning_is t new) (refused_of l d old new n w bs rest before after r taken))

      pub self_full : FullOnlyIf r (w ≢ EndGroup)
      self_full = full_of l d old new n w bs rest before after r taken
