-- Merging the fields of a message one after the other: how far it came, and why it stops.
use Rattle.std.proofs.Common.{◌≡◌, ◌≢◌, ◌⊎◌, inl, inr, ℕ, ◌<◌, ◌≤◌, List, [], ◌++◌, drop, length, Option, Some, Ok, Err, refl, sym, ap, subst, ◌∙◌, arith, append_assoc, append-nil, length-append}
use Rattle.std.proofs.lemmas.List.{nil_from_length}
use Rattle.std.proofs.Math.Seq.{drop-append_seam}
use Rattle.std.proofs.lemmas.Option.{same_Some}
use Rattle.std.specs.Option.{option_and_then}
use Rattle.buffa_bytes.proofs.FieldLemmas.{tag_complete, tag_falls, tag_some, tag_sound}
use Rattle.buffa_bytes.proofs.StepLemmas.{agree_ok}
use Rattle.buffa_bytes.proofs.TailLemmas.{tail_dropped}
use Rattle.buffa_bytes.specs.Field.{Payload, SomeField, TakesTag}
use Rattle.buffa_bytes.specs.Readings.{tag_at}
use Rattle.buffa_bytes.specs.Join.{Join}
use Rattle.buffa_bytes.specs.Unread.{IsTailOf}
use Rattle.buffa_bytes.specs.Join.Join.{none, more}
use Rattle.buffa_bytes.specs.declared.error.DecodeError.{DecodeError}
use Rattle.buffa_bytes.specs.declared.error.DecodeError.TheVariants.{OutOfMemory}
use Rattle.buffa_bytes.specs.declared.wire_type.WireType.{WireType}
use Rattle.buffa_bytes.specs.declared.wire_type.WireType.TheVariants.{EndGroup}
use Rattle.buffa_wire.proofs.ByPayloadLemmas.{ByPayload, cost_empty, cost_join, judged_all, merged_empty, merged_join, untagged}
use Rattle.buffa_wire.proofs.MessageLemmas.{join_more, loop_fault, reaches_tag}
use Rattle.buffa_wire.specs.BudgetLeft.{BudgetLeft, Pays, PaysAtMost, plus}
use Rattle.buffa_wire.specs.Message.{BeginsField, FieldRefused, IsFieldMerged, MergeFault, PartlyMerged}
use Rattle.buffa_wire.specs.Takes.{Charge, Taker}
use Rattle.buffa_wire.specs.Pinned.{done, refusal}

-- the fields before what is left were merged, and exactly their cost was spent
pub record CameTo {X : Type 0} (merged : ℕ → X → List ℕ → Option X) (cost : ℕ → List ℕ → BudgetLeft) (d : ℕ) (old : X) (all : List ℕ) (first : BudgetLeft) (now : X) (rest : List ℕ) (left : BudgetLeft) : Type 0 where
  pub front : List ℕ
  pub fields : Join (SomeField d) front
  pub split : all ≡ front ++ rest
  pub means : merged d old front ≡ Some now
  pub pays : Pays first (cost d front) left

-- fields at the front are none, or a field begins the bytes
begun_by : (d : ℕ) (f all rest : List ℕ) → Join (SomeField d) f → all ≡ f ++ rest → (f ≡ []) ⊎ BeginsField all
begun_by d _ all rest none whole = inl refl
begun_by d _ all rest (more f r (n, w, (t, p, tag, payload, is)) j) whole = inr (
  n,
  w,
  p ++ (r ++ rest),
  ap tag_at (whole ∙ append_assoc f r rest ∙ ap (λ (z : List ℕ). z ++ (r ++ rest)) is ∙ append_assoc t p (r ++ rest)) ∙ tag_complete t n w (p ++ (r ++ rest)) tag,
  λ end. subst (λ v. Payload d n v p) end payload,
)

module _ {X : Type 0} {takes : Taker X} {charge : Charge} {merged : ℕ → X → List ℕ → Option X} {cost : ℕ → List ℕ → BudgetLeft} (by : ByPayload takes charge merged cost) where
  pub begins : (d : ℕ) (v : X) (all : List ℕ) (left : BudgetLeft) → CameTo merged cost d v all left v all left
  begins d v all left = record {
    front = [];
    fields = none;
    split = refl;
    means = merged_empty by d v;
    pays = subst (λ z. Pays left z left) (sym (cost_empty by d)) (omega arith, omega arith);
  }

  module _ {d : ℕ} {old : X} {all : List ℕ} {first : BudgetLeft} {now : X} {rest : List ℕ} {left : BudgetLeft} (came : CameTo merged cost d old all first now rest left) where
    -- what is left means in the value what all bytes meant in the old one, and costs what they cost but for the front
    on : merged d old all ≡ merged d now rest
    on = ap (merged d old) came.split ∙ merged_join by d came.front rest came.fields old ∙ ap (option_and_then (λ w. merged d w rest)) came.means

    pub costs : cost d all ≡ plus (cost d came.front) (cost d rest)
    costs = ap (cost d) came.split ∙ cost_join by d came.front rest came.fields

    -- nothing is left
    pub ended : length rest ≤ 0 → (merged d old all ≡ Some now) × Pays first (cost d all) left
    ended empty =
        let same : all ≡ came.front = came.split ∙ ap (λ (z : List ℕ). came.front ++ z) (nil_from_length rest (omega (arith, empty))) ∙ append-nil came.front in
        (ap (merged d old) same ∙ came.means, subst (λ z. Pays first (cost d z) left) (sym same) came.pays)

    -- no field begins them
    pub untouched : (BeginsField all → ⊥) → old ≡ now
    untouched never = elim (begun_by d came.front all rest came.fields came.split) [
      | inl e ↦ same_Some old now (sym (merged_empty by d old) ∙ ap (merged d old) (sym e) ∙ came.means)
      | inr begins_it ↦ absurd (never begins_it)
    ]

    pub tail : IsTailOf rest all
    tail = tail_dropped (length came.front) all rest (sym (ap (drop (length came.front)) came.split ∙ drop-append_seam came.front rest))

    -- why all bytes aren't merged, and what was spent
    abbrev Refuses : DecodeError → BudgetLeft → Type 0
    Refuses e over = PaysAtMost first (cost d all) over × (e ≢ OutOfMemory → MergeFault (merged d old all) (cost d all) first e)

    pub stopped : (e : DecodeError) (over : BudgetLeft) → PaysAtMost left (cost d rest) over × (e ≢ OutOfMemory → MergeFault (merged d now rest) (cost d rest) left e) → Refuses e over
    stopped e over why =
        let unknown = ap (λ (z : BudgetLeft). z.unknown) costs in
        let memory = ap (λ (z : BudgetLeft). z.memory) costs in
        loop_fault (merged d old all) (merged d now rest) first left over (cost d all) (cost d rest) e on
        (omega (arith, came.pays.0, unknown)) (omega (arith, came.pays.1, memory)) (omega (arith, came.pays.0)) (omega (arith, came.pays.1)) why

    -- no tag is next
    pub no_tag : (e : DecodeError) → 0 < length rest → tag_at rest ≡ Err e → Refuses e left
    no_tag e some no_semantics = stopped e left ((omega arith, omega arith, omega arith, omega arith), λ ne. untagged by d now rest left e some no_semantics)

    -- what stands then
    pub partly_merged_untagged : (Refused : FieldRefused X) (e : DecodeError) → 0 < length rest → tag_at rest ≡ Err e → PartlyMerged merged cost Refused d old all first e now
    partly_merged_untagged Refused e some no_semantics = record { front = came.front; rest = rest; split = came.split; some = some; mid = now; means = came.means; left = left; pays = came.pays; next = inl (no_semantics, refl) }

    module _ (n : ℕ) (w : WireType) (bs : List ℕ) (tag : tag_at rest ≡ Ok (n, w, bs)) where
      took : TakesTag rest n w bs
      took = agree_ok (tag_at rest) (n, w, bs) (tag_sound rest) tag

      -- a field more
      pub goes_on : (new : X) (x : List ℕ) (over : BudgetLeft) → IsFieldMerged merged cost d now n w bs left done new over x → CameTo merged cost d old all first new x over
      goes_on new x over (p, payload, is, one) =
          let t = took.0 in
          let f = came.front in
          let this = one t took.1 in
          let adds = cost_join by d f (t ++ p) came.fields in
          record {
            front = f ++ (t ++ p);
            fields = join_more f (t ++ p) came.fields (n, w, (t, p, took.1, payload, refl));
            split = came.split ∙ ap (λ (z : List ℕ). f ++ z) (took.2 ∙ ap (λ (z : List ℕ). t ++ z) is ∙ sym (append_assoc t p x)) ∙ sym (append_assoc f (t ++ p) x);
            means = merged_join by d f (t ++ p) came.fields old ∙ ap (option_and_then (λ z. merged d z (t ++ p))) came.means ∙ this.0;
            pays = (omega (arith, came.pays.0, this.1.0, ap (λ (z : BudgetLeft). z.unknown) adds), omega (arith, came.pays.1, this.1.1, ap (λ (z : BudgetLeft). z.memory) adds));
          }

      pub shorter : (new : X) (x : List ℕ) (over : BudgetLeft) → IsFieldMerged merged cost d now n w bs left done new over x → length x < length rest
      shorter new x over (p, payload, is, one) = omega (arith, tag_some took.0 n w took.1, ap length took.2, length-append took.0 bs, ap length is, length-append p x)

      -- the next field is refused
      pub refused_next : (e : DecodeError) (new : X) (x : List ℕ) (over : BudgetLeft) → IsFieldMerged merged cost d now n w bs left (refusal e) new over x → Refuses e over
      refused_next e new x over why =
          stopped e over (subst (λ (z : List ℕ). PaysAtMost left (cost d z) over × (e ≢ OutOfMemory → MergeFault (merged d now z) (cost d z) left e)) (sym took.2)
          (judged_all by d now n w bs left over e why took.0 took.1))

      -- what stands then
      pub partly_merged_refused : (Refused : FieldRefused X) (e : DecodeError) (new : X) (x : List ℕ) (over : BudgetLeft) → IsFieldMerged merged cost d now n w bs left (refusal e) new over x → Refused d now n w bs left e new → (e ≡ OutOfMemory → w ≢ EndGroup) → PartlyMerged merged cost Refused d old all first e new
      partly_merged_refused Refused e new x over why leaves other = record {
        front = came.front;
        rest = rest;
        split = came.split;
        some = omega (arith, tag_falls rest (n, w, bs) tag);
        mid = now;
        means = came.means;
        left = left;
        pays = came.pays;
        next = inr (n, w, bs, tag, leaves, other, λ t p is judged ne. (why t p is judged).1 ne);
      }

      -- it is no end of a group
      pub reached : w ≢ EndGroup → BeginsField all
      reached other = reaches_tag d came.front all rest (n, w, bs) came.fields came.split tag other
