-- How far merging came is where the first refused record begins.
use Rattle.std.proofs.Common.{◌≡◌, ◌≢◌, inl, inr, ℕ, ◌-◌, ◌<◌, ◌≤◌, List, ◌++◌, take, drop, length, Option, None, Some, Ok, Err, refl, sym, ap, subst, ◌∙◌, arith, append_assoc, length-append}
use Rattle.std.proofs.Math.Seq.{drop-append_seam, take-append_seam}
use Rattle.std.specs.Prelude.{IsSome}
use Rattle.buffa_bytes.specs.declared.error.DecodeError.{DecodeError}
use Rattle.buffa_bytes.specs.declared.error.DecodeError.TheVariants.{OutOfMemory}
use Rattle.buffa_bytes.specs.declared.tag.Tag.{Tag}
use Rattle.buffa_bytes.specs.Readings.{tag_at}
use Rattle.buffa_bytes.proofs.FieldLemmas.{tag_falls, tag_sound}
use Rattle.buffa_bytes.proofs.FullLemmas.{tag_full}
use Rattle.buffa_bytes.proofs.StepLemmas.{agree_ok}
use Rattle.buffa_wire.proofs.ByPayloadLemmas.{ByPayload}
use Rattle.buffa_wire.proofs.MergeLoopLemmas.{CameTo, ended, no_tag, refused_next}
use Rattle.buffa_wire.specs.BudgetLeft.{BudgetLeft, Lacks, Pays}
use Rattle.buffa_wire.specs.Message.{FieldRefused, IsFieldMerged, IsJudged, MergeFault}
use Rattle.buffa_wire.specs.Takes.{Charge, Taker}
use Rattle.buffa_wire.specs.Pinned.{refusal}
use Rattle.buffa_locate.specs.Places.{AreAllMerged, IsFirstRefused, RefusesAt}
use Rattle.buffa_locate.specs.declared.refused.Refused.{Refused}

-- ---- a seam in bytes, by what is behind it

seam : (all front rest : List ℕ) → all ≡ front ++ rest → length all - length rest ≡ length front
seam all front rest split = omega (arith, ap length split, length-append front rest)

in_front : (all front rest : List ℕ) (n : ℕ) → all ≡ front ++ rest → n ≡ length all - length rest → take n all ≡ front
in_front all front rest n split is = ap (λ k. take k all) (is ∙ seam all front rest split) ∙ ap (take (length front)) split ∙ take-append_seam front rest

behind_it : (all front rest : List ℕ) (n : ℕ) → all ≡ front ++ rest → n ≡ length all - length rest → drop n all ≡ rest
behind_it all front rest n split is = ap (λ k. drop k all) (is ∙ seam all front rest split) ∙ ap (drop (length front)) split ∙ drop-append_seam front rest

pub paid : (first charge left : BudgetLeft) → Pays first charge left → Lacks first charge → ⊥
paid first charge left pays (inl few) = omega (arith, pays.0)
paid first charge left pays (inr little) = omega (arith, pays.1)

module _ {X : Type 0} {takes : Taker X} {charge : Charge} {merged : ℕ → X → List ℕ → Option X} {cost : ℕ → List ℕ → BudgetLeft} (by : ByPayload takes charge merged cost)
    {d : ℕ} {old : X} {all : List ℕ} {first : BudgetLeft} {now : X} {rest : List ℕ} {left : BudgetLeft} (came : CameTo merged cost d old all first now rest left) where
  -- nothing is left
  pub all_read : length rest ≤ 0 → AreAllMerged (merged d old all) (cost d all) first
  all_read empty = let k = ended by came empty in (subst IsSome (sym k.0) refl, paid first (cost d all) left k.1)

  module _ (found : Refused) (at_is : found.at ≡ length all - length rest) (left_is : record { unknown = found.unknown; memory = found.memory } ≡ left) where
    before : take found.at all ≡ came.front
    before = in_front all came.front rest found.at came.split at_is

    module _ {Says : FieldRefused X} where
      -- no tag is next
      pub stops_untagged : found.tag ≡ None → found.behind ≡ found.at → 0 < length rest → tag_at rest ≡ Err found.fault → IsFirstRefused merged cost Says d old all first found
      stops_untagged bare same some none_there = record {
        within = omega (arith, at_is, ap length came.split, length-append came.front rest);
        from = omega (arith, same);
        to = omega (arith, same, at_is);
        mid = now;
        means = ap (merged d old) before ∙ came.means;
        pays = subst (λ f. Pays first (cost d f) (record { unknown = found.unknown; memory = found.memory })) (sym before) (subst (Pays first (cost d came.front)) (sym left_is) came.pays);
        refuses = subst (λ t. RefusesAt merged cost Says d now all (record { unknown = found.unknown; memory = found.memory }) found.at t found.behind found.fault) (sym bare)
            (ap tag_at (behind_it all came.front rest found.at came.split at_is) ∙ none_there, same);
        tells = λ full. tag_full rest (none_there ∙ ap (λ e. Err e) full);
        why = (no_tag by came found.fault some none_there).1 (λ full. tag_full rest (none_there ∙ ap (λ e. Err e) full));
      }

      -- the next field is refused
      pub stops_refused : (tag : Tag) (bs : List ℕ) → found.tag ≡ Some tag → tag_at rest ≡ Ok (tag.number, tag.wire_type, bs) → found.behind ≡ length all - length bs → (new : X) (x : List ℕ) (over : BudgetLeft) →
          IsFieldMerged merged cost d now tag.number tag.wire_type bs left (refusal found.fault) new over x → Says d now tag.number tag.wire_type bs left found.fault new → found.fault ≢ OutOfMemory → IsFirstRefused merged cost Says d old all first found
      stops_refused tag bs has is goes new x over why said tells =
          let took = agree_ok (tag_at rest) (tag.number, tag.wire_type, bs) (tag_sound rest) is in
          let split : all ≡ (came.front ++ took.0) ++ bs = came.split ∙ ap (λ (z : List ℕ). came.front ++ z) took.2 ∙ sym (append_assoc came.front took.0 bs) in
          let past : drop found.behind all ≡ bs = behind_it all (came.front ++ took.0) bs found.behind split goes in
          let falls : length bs < length rest = tag_falls rest (tag.number, tag.wire_type, bs) is in
          let fits : length rest ≤ length all = omega (arith, ap length came.split, length-append came.front rest) in record {
            within = omega (arith, at_is, falls, fits);
            from = omega (arith, at_is, goes, falls, fits);
            to = omega (arith, goes);
            mid = now;
            means = ap (merged d old) before ∙ came.means;
            pays = subst (λ f. Pays first (cost d f) (record { unknown = found.unknown; memory = found.memory })) (sym before) (subst (Pays first (cost d came.front)) (sym left_is) came.pays);
            refuses = subst (λ t. RefusesAt merged cost Says d now all (record { unknown = found.unknown; memory = found.memory }) found.at t found.behind found.fault) (sym has) (
              ap tag_at (behind_it all came.front rest found.at came.split at_is) ∙ is ∙ ap (λ z. Ok (tag.number, tag.wire_type, z)) (sym past),
              omega (arith, at_is, goes, falls, fits),
              omega (arith, goes),
              (new, subst (λ z. Says d now tag.number tag.wire_type z (record { unknown = found.unknown; memory = found.memory }) found.fault new) (sym past) (subst (λ l. Says d now tag.number tag.wire_type bs l found.fault new) (sym left_is) said)),
              λ t p tagged judged. subst (λ l. MergeFault (merged d now (t ++ p)) (cost d (t ++ p)) l found.fault) (sym left_is)
                  ((why t p tagged (subst (λ z. IsJudged d tag.number tag.wire_type z p) past judged)).1 tells),
            );
            tells = tells;
            why = (refused_next by came tag.number tag.wire_type bs is found.fault new x over why).1 tells;
          }

      -- the same, where the fault is told that isn't want of memory
      pub stops_told : (fault : DecodeError) (tag : Tag) (bs : List ℕ) → found.tag ≡ Some tag → tag_at rest ≡ Ok (tag.number, tag.wire_type, bs) → found.behind ≡ length all - length bs → (new : X) (x : List ℕ) (over : BudgetLeft) →
          IsFieldMerged merged cost d now tag.number tag.wire_type bs left (refusal fault) new over x → Says d now tag.number tag.wire_type bs left fault new → (found.fault ≡ fault) × (found.fault ≢ OutOfMemory) → IsFirstRefused merged cost Says d old all first found
      stops_told fault tag bs has is goes new x over why said same =
          stops_refused tag bs has is goes new x over (subst (λ e. IsFieldMerged merged cost d now tag.number tag.wire_type bs left (refusal e) new over x) (sym same.0) why) (subst (λ e. Says d now tag.number tag.wire_type bs left e new) (sym same.0) said) same.1

pub same_left : (u m : ℕ) (l : BudgetLeft) → u ≡ l.unknown → m ≡ l.memory → record { unknown = u; memory = m } ≡ l
same_left u m l e f = λ i. record { unknown = e i; memory = f i }
