-- Merging fields into a MessageSet, one after another, up to a refused one.
use Rattle.std.proofs.Common.{◌≡◌, ◌≢◌, inr, ℕ, ◌<◌, List, length, Ok, sym, subst}
use Rattle.buffa_bytes.specs.Readings.{tag_at}
use Rattle.buffa_bytes.specs.declared.wire_type.WireType.{WireType}
use Rattle.buffa_bytes.specs.declared.wire_type.WireType.TheVariants.{EndGroup}
use Rattle.buffa_bytes.specs.declared.error.DecodeError.{DecodeError}
use Rattle.buffa_bytes.specs.declared.error.DecodeError.TheVariants.{OutOfMemory}
use Rattle.buffa_wire.proofs.ByPayloadLemmas.{ByPayload, by_payload}
use Rattle.buffa_wire.proofs.TakesLemmas.{cost_by_is, merged_by_is}
use Rattle.buffa_wire.specs.Takes.{taken_by}
use Rattle.buffa_wire.specs.BudgetLeft.{BudgetLeft}
use Rattle.buffa_wire.specs.Message.{BeginsField}
use Rattle.buffa_wire.specs.Records.{FieldData}
use Rattle.buffa_wire.proofs.MergeLoopLemmas.{CameTo}
use Rattle.buffa_sets.specs.Set.{IsSetFieldRefused, NextIsRefused, StopsBehind, set_cost, set_field, set_merged, set_charge}
use Rattle.buffa_sets.specs.SetFacts.{set_same, set_sound, set_stays}

abbrev Values : Type 0
Values = List (ℕ × FieldData)

pub by_payloads : ByPayload (λ d. taken_by (set_field d)) set_charge set_merged set_cost
by_payloads = by_payload set_stays (merged_by_is set_field set_sound set_same) (cost_by_is set_charge)

-- ---- what merge promises of a refusal
module _ {d : ℕ} {old : Values} {all : List ℕ} {before : BudgetLeft} {v : Values} {bs : List ℕ} {now : BudgetLeft} (came : CameTo set_merged set_cost d old all before v bs now) (e : DecodeError) (some : 0 < length bs) where
  pub stops : (e ≢ OutOfMemory → NextIsRefused d v bs now e) → (e ≡ OutOfMemory → BeginsField bs) → StopsBehind d old all before e v now
  stops why full = (came.front, bs, came.fields, came.split, some, came.means, came.pays, why, full)

  -- a field that was refused changed nothing
  pub stops_at : (n : ℕ) (w : WireType) (rest : List ℕ) → tag_at bs ≡ Ok (n, w, rest) → (u : Values) (left : BudgetLeft) → u ≡ v → left ≡ now → (e ≢ OutOfMemory → IsSetFieldRefused d v n w rest now e) → (e ≡ OutOfMemory → w ≢ EndGroup) →
      StopsBehind d old all before e u left
  stops_at n w rest tag u left same kept why full =
      subst (λ z. StopsBehind d old all before e z left) (sym same) (subst (λ z. StopsBehind d old all before e v z) (sym kept) (stops (λ ne. inr (n, w, rest, tag, why ne)) (λ h. (n, w, rest, tag, full h))))
