-- Answers that contracts allow are one.
use Rattle.std.proofs.Common.{◌≡◌, ◌≢◌, ◌⊎◌, inl, inr, ℕ, ℤ, true, zero, suc, ◌+◌, ◌-◌, List, [], ◌∷◌, ◌++◌, drop, take, length, slice_index, Option, Some, refl, sym, ap, subst, ◌∙◌, arith, append-nil}
use Rattle.buffa_bytes.proofs.FieldLemmas.{payload_complete}
use Rattle.buffa_bytes.specs.declared.wire_type.WireType.{WireType}
use Rattle.buffa_bytes.specs.declared.error.DecodeError.{DecodeError}
use Rattle.buffa_bytes.specs.Field.{IsTag, Payload}
use Rattle.buffa_bytes.specs.Readings.{skip_at}
use Rattle.buffa_wire.specs.BudgetLeft.{BudgetLeft, Lacks, Pays}
use Rattle.buffa_wire.specs.Cache.{Cache, advanced}
use Rattle.buffa_wire.specs.Enums.{open_number}
use Rattle.buffa_wire.specs.Passes.{IsNext}
use Rattle.buffa_wire.proofs.PassLemmas.{next_ok, next_rest}
use Rattle.buffa_wire.specs.Message.{IsFieldMerged, MergeFault, IsInside, MessageFault, cost_in, merged_in}
use Rattle.buffa_bytes.specs.declared.error.DecodeError.TheVariants.{OutOfMemory}
use Rattle.std.proofs.lemmas.List.{append_cancel_right}
use Rattle.buffa_wire.proofs.ParseLemmas as parse
use Rattle.buffa_wire.specs.Pinned.{done, refusal, BudgetIsPinned, FieldIsPinned, FieldMergeIsPinned, InsideIsPinned, MergeIsPinned, PassesArePinned, RecordsArePinned}
use Rattle.buffa_wire.specs.Records.{list_of, records_of}
use Rattle.buffa_wire.proofs.LoopLemmas.{field_refused, field_taken, list_refused, list_taken}
use Rattle.buffa_wire.proofs.RecordLemmas.{list-records}
use Rattle.buffa_bytes.proofs.SequenceLemmas.{ok_same}
use Rattle.buffa_wire.proofs.SpentLemmas.{not_lacked, one_left}
use Rattle.std.proofs.Math.Seq.{take-append_seam}
use Rattle.std.proofs.lemmas.Bool.{cases_lt}
use Rattle.std.proofs.lemmas.Option.{same_Some}

-- ---- budgets
paid_or_not : (left charge : BudgetLeft) → ((a : BudgetLeft) × Pays left charge a) ⊎ Lacks left charge
paid_or_not left charge = elim (cases_lt left.unknown charge.unknown) [
  | inl few ↦ inr (inl few)
  | inr some ↦ elim (cases_lt left.memory charge.memory) [
    | inl few ↦ inr (inr few)
    | inr more ↦ inl (record { unknown = left.unknown - charge.unknown; memory = left.memory - charge.memory }, (omega (arith, some), omega (arith, more)))
  ]
]

pub budget_is_pinned : (left charge : BudgetLeft) → BudgetIsPinned left charge
budget_is_pinned left charge = record { paid = one_left left charge; lacked = not_lacked left charge; either = paid_or_not left charge }

-- ---- merging
pub merge_is_pinned : {X : Type 0} (meant : Option X) (charge before : BudgetLeft) → MergeIsPinned meant charge before
merge_is_pinned meant charge before = record {
  merged = λ a b x y h k. (same_Some a b (sym h.0 ∙ k.0), one_left before charge x y h.1 k.1);
  refused = λ a b x y f h k other. elim (k.1 other) [ inl few ↦ not_lacked before charge x h.1 few | inr bad ↦ (let e = sym h.0 ∙ bad.0 in cc) ];
  alone = λ a b h k. same_Some a b (sym h.0 ∙ k.0);
  not_alone = λ a b f h k other. elim (k other) [ inl few ↦ h.1 few | inr bad ↦ (let e = sym h.0 ∙ bad.0 in cc) ];
}

same_rest : (d n : ℕ) (w : WireType) (bs p q r s : List ℕ) → Payload d n w p → bs ≡ p ++ r → Payload d n w q → bs ≡ q ++ s → r ≡ s
same_rest d n w bs p q r s h is k also =
    ok_same (sym (payload_complete d n w p r h) ∙ ap (skip_at d n w) (sym is ∙ also) ∙ payload_complete d n w q s k)

same_front : (bs p q r s : List ℕ) → bs ≡ p ++ r → bs ≡ q ++ s → r ≡ s → p ≡ q
same_front bs p q r s is also e = append_cancel_right p q s (ap (λ z. p ++ z) (sym e) ∙ sym is ∙ also)

module _ {X : Type 0} (merged : ℕ → X → List ℕ → Option X) (cost : ℕ → List ℕ → BudgetLeft) (d n : ℕ) (w : WireType) (t : List ℕ) (tag : IsTag t n w) (old : X) (bs : List ℕ) (before : BudgetLeft) where
  field_merges : (a b : X) (x y : BudgetLeft) (r s : List ℕ) →
      IsFieldMerged merged cost d old n w bs before done a x r → IsFieldMerged merged cost d old n w bs before done b y s → (a ≡ b) × (x ≡ y) × (r ≡ s)
  field_merges a b x y r s (p, payload, is, h) (q, other, also, k) =
      let rest = same_rest d n w bs p q r s payload is other also in
      let e : p ≡ q = same_front bs p q r s is also rest in
      let one = h t tag in
      let two = subst (λ z. (merged d old (t ++ z) ≡ Some b) × Pays before (cost d (t ++ z)) y) (sym e) (k t tag) in
      (same_Some a b (sym one.0 ∙ two.0), one_left before (cost d (t ++ p)) x y one.1 two.1, rest)

  field_refuses : (a b : X) (x y : BudgetLeft) (r s : List ℕ) (f : DecodeError) →
      IsFieldMerged merged cost d old n w bs before done a x r → IsFieldMerged merged cost d old n w bs before (refusal f) b y s → (f ≢ OutOfMemory) → ⊥
  field_refuses a b x y r s f (p, payload, is, h) k other =
      let one = h t tag in
      elim ((k t p tag (inl (r, payload, is))).1 other) [ inl few ↦ not_lacked before (cost d (t ++ p)) x one.1 few | inr bad ↦ (let e = sym one.0 ∙ bad.0 in cc) ]

  pub field_merge_is_pinned : FieldMergeIsPinned merged cost d n w t tag old bs before
  field_merge_is_pinned = record { merges = field_merges; refuses = field_refuses }

module _ {X : Type 0} (merged : ℕ → X → List ℕ → Option X) (cost : ℕ → List ℕ → BudgetLeft) where
  inside_merges : (d : ℕ) (old a b : X) (bs : List ℕ) (before x y : BudgetLeft) (r s : List ℕ) →
      IsInside merged cost d old bs before a x r → IsInside merged cost d old bs before b y s → (a ≡ b) × (x ≡ y) × (r ≡ s)
  inside_merges d old a b bs before x y r s (p, is, means, pays) (q, also, meant, paid) =
      let e = ok_same (sym also ∙ is) in
      let same : q ≡ p = ap (λ z. z.0) e in
      let two : (merged_in merged d old p ≡ Some b) × Pays before (cost_in cost d p) y = subst (λ z. (merged_in merged d old z ≡ Some b) × Pays before (cost_in cost d z) y) same (meant, paid) in
      (same_Some a b (sym means ∙ two.0), one_left before (cost_in cost d p) x y pays two.1, sym (ap (λ z. z.1) e))

  inside_refuses : (d : ℕ) (old a : X) (bs : List ℕ) (before x : BudgetLeft) (r : List ℕ) (e : DecodeError) →
      IsInside merged cost d old bs before a x r → MessageFault merged cost d old bs before e → ⊥
  inside_refuses zero old a bs before x r e (p, is, means, pays) h = cc
  inside_refuses (suc d) old a bs before x r e (p, is, means, pays) (inl h) = let k = sym is ∙ h in cc
  inside_refuses (suc d) old a bs before x r e (p, is, means, pays) (inr (b, rest, also, why)) =
      let same : b ≡ p = ap (λ z. z.0) (ok_same (sym also ∙ is)) in
      elim (subst (λ z. MergeFault (merged d old z) (cost d z) before e) same why) [
        | inl few ↦ not_lacked before (cost d p) x pays few
        | inr bad ↦ (let k = sym means ∙ bad.0 in cc)
      ]

  pub inside_is_pinned : (d : ℕ) (old : X) (bs : List ℕ) (before : BudgetLeft) → InsideIsPinned merged cost d old bs before
  inside_is_pinned d old bs before = record {
    merges = λ a b x y r s. inside_merges d old a b bs before x y r s;
    refuses = λ a x r e. inside_refuses d old a bs before x r e;
    left = λ e r s other h k. h.0 other ∙ sym (k.0 other);
  }

-- ---- passes
pub passes_are_pinned : (encoding slots : List ℕ) (old : Cache) → PassesArePinned encoding slots old
passes_are_pinned encoding slots old = record {
  sized = λ m n a b h k. (h.0 ∙ sym k.0, h.1 ∙ sym k.1);
  written = λ before x y a b small h k. (
    h.1 ∙ ap (λ z. before ++ z) (h.2.1 small ∙ sym (k.2.1 small)) ∙ sym k.1,
    h.2.0 ∙ sym k.2.0,
  );
  refused = λ e a (which, (more, is)). (ap (λ (z : Cache). take (length old.slots) z.slots) is ∙ take-append_seam old.slots more, ap (λ (z : Cache). z.next) is);
  consumed = λ a (n, few, is). (
    ap (λ (z : Cache). z.slots) is,
    omega (arith, ap (λ (z : Cache). z.next) is),
    omega (arith, few, ap (λ (z : Cache). z.next) is),
  );
}

-- ---- records
pub field_is_pinned : (d s n : ℕ) (w : WireType) (bs : List ℕ) → FieldIsPinned d s n w bs
field_is_pinned d s n w bs = record {
  taken = λ x y k m r q h g.
      let e = ok_same (sym (field_taken d s n w bs x k r h) ∙ field_taken d s n w bs y m q g) in
      (ap (λ z. z.0) e, ap (λ z. z.1) e, ap (λ z. z.2) e);
  refused = λ x k r e h g. let q = sym (field_taken d s n w bs x k r h) ∙ field_refused d s n w bs e g in cc;
  fault = λ e f h g. let q = sym (field_refused d s n w bs e h) ∙ field_refused d s n w bs f g in cc;
  left = λ e r q other h g. h.0 other ∙ sym (g.0 other);
  counted = λ k m h g. h ∙ sym g;
}

pub records_are_pinned : (d s : ℕ) (bs : List ℕ) → RecordsArePinned d s bs
records_are_pinned d s bs = record {
  taken = λ rs qs h k. sym (list-records rs) ∙ ap list_of (parse.one_reading bs d d (records_of rs) (records_of qs) h k) ∙ list-records qs;
  refused = λ rs e h l g. let q = sym (list_taken d s bs rs h l) ∙ list_refused d s bs e g in cc;
  fault = λ e f h g. let q = sym (list_refused d s bs e h) ∙ list_refused d s bs f g in cc;
}

-- ---- slots
pub slots_are_consumed : (n : ℕ) (slots : List ℕ) (c : Cache) → IsNext (n ∷ slots) c → (slice_index c.slots c.next ≡ n) × IsNext slots (advanced 1 c)
slots_are_consumed n slots c h = ((next_ok n slots c h).1, next_rest n slots c h)

-- ---- enums
pub declared_reads : {E : Type 0} (of : ℤ → Option E) (v : E) (n : ℤ) → of n ≡ Some v → open_number of n ≡ (true, n)
declared_reads of v n e = rw e refl
