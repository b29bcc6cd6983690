-- A message inside a field, whose bytes are given to a function.
use Rattle.std.proofs.Common.{◌≡◌, ◌≢◌, ◌⊎◌, inl, inr, ℕ, zero, suc, ◌-◌, ◌<◌, List, [], length, Option, Some, Result, Ok, Err, refl, sym, ap, subst, ◌∙◌, arith, IsOk}
use denote.Param.Members.{Mut}
use denote.Ref.{Bor}
use Rattle.std.specs.Fn.{Called}
use Rattle.std.specs.Prelude.{IfErr, OnErr, OnOk}
use Rattle.buffa_bytes.specs.declared.error.DecodeError.{DecodeError}
use Rattle.buffa_bytes.specs.declared.error.DecodeError.TheVariants as error
use Rattle.buffa_bytes.specs.Readings.{delimited_at, FullOnlyIf}
use Rattle.buffa_bytes.specs.Delimited.{Lends}
use Rattle.buffa_bytes.proofs.LendLemmas.{lent_full}
use Rattle.buffa_bytes.proofs.FieldLemmas.{tag_falls}
use Rattle.buffa_wire.proofs.ByPayloadLemmas.{ByPayload, cost_empty, merged_empty}
use Rattle.buffa_wire.proofs.SpentLemmas.{PaysAtMost_nothing}
use Rattle.buffa_wire.specs.BudgetLeft.{BudgetLeft, Pays, PaysAtMost, nothing}
use Rattle.buffa_wire.specs.Takes.{Charge, Taker}
use Rattle.buffa_wire.specs.Message.{BeginsField, FieldRefused, IsInside, IsMerged, MergeFault, MessageFault, PartlyMerged, PartlyMergedInside, cost_in, cost_of_payload, merged_in}

module _ {F X T : Type 0} (g : Mut F (Bor (List ℕ) × Unit {0}) (Result T DecodeError)) (merged : ℕ → X → List ℕ → Option X) (cost : ℕ → List ℕ → BudgetLeft) where
  -- a call of f merges the bytes that it is given, one level down
  abbrev Merges : ℕ → F → X → BudgetLeft → Result T DecodeError → F → X → BudgetLeft → Type 0
  Merges d f old before r f' new after = (p : Bor (List ℕ)) → Called g f (p, tt) r f' → IsMerged (merged (d - 1) old p.now) (cost (d - 1) p.now) before r new after

  ok_by : (d : ℕ) (f f' : F) (old new : X) (left : List ℕ) (before after : BudgetLeft) (t : Result (List ℕ × List ℕ) DecodeError) (r : Result T DecodeError) → d ≢ 0 → Lends g f t r f' left → Merges d f old before r f' new after →
      OnOk r ((p : List ℕ) × (t ≡ Ok (p, left)) × (merged_in merged d old p ≡ Some new) × Pays before (cost_in cost d p) after)
  ok_by zero f f' old new left before after t r deep h asks = absurd (deep refl)
  ok_by (suc d) f f' old new left before after (Ok p) (Ok x) deep (inl c) asks =
      let k : suc d - 1 ≡ d = omega arith in
      let m = rw (k, c.0.shows) at (asks c.0.shown c.0.called) in
      (p.0, ap (λ z. Ok (p.0, z)) (sym c.1), m.0, m.1)
  ok_by (suc d) f f' old new left before after (Ok p) (Ok x) deep (inr n) asks = absurd (let q = n.0 in cc)
  ok_by (suc d) f f' old new left before after (Err e) (Ok x) deep h asks = absurd (let q = h.0 in cc)
  ok_by (suc d) f f' old new left before after t (Err x) deep h asks = tt

  pub inside_ok : (d : ℕ) (f f' : F) (old new : X) (bs left : List ℕ) (before after : BudgetLeft) (r : Result T DecodeError) → d ≢ 0 → Lends g f (delimited_at bs) r f' left → Merges d f old before r f' new after →
      OnOk r (IsInside merged cost d old bs before new after left)
  inside_ok d f f' old new bs left before after r deep h asks = ok_by d f f' old new left before after (delimited_at bs) r deep h asks

  -- a call that is refused tells why those bytes aren't merged
  abbrev Tells : ℕ → F → X → BudgetLeft → Result T DecodeError → F → Type 0
  Tells d f old before r f' = (p : Bor (List ℕ)) → Called g f (p, tt) r f' → IfErr r (λ x. x ≢ error.OutOfMemory → MergeFault (merged (d - 1) old p.now) (cost (d - 1) p.now) before x)

  fault_by : (d : ℕ) (f f' : F) (old : X) (bs left : List ℕ) (before : BudgetLeft) (t : Result (List ℕ × List ℕ) DecodeError) (r : Result T DecodeError) → delimited_at bs ≡ t → d ≢ 0 → Lends g f t r f' left → Tells d f old before r f' →
      IfErr r (λ x. x ≢ error.OutOfMemory → MessageFault merged cost d old bs before x)
  fault_by zero f f' old bs left before t r at deep h tells = absurd (deep refl)
  fault_by (suc d) f f' old bs left before (Ok p) (Err x) at deep (inl c) tells =
      let k : suc d - 1 ≡ d = omega arith in
      λ ne. inr (p.0, p.1, at, rw (k, c.0.shows) at (tells c.0.shown c.0.called ne))
  fault_by (suc d) f f' old bs left before (Ok p) (Err x) at deep (inr n) tells = λ ne. absurd (ne (let q = n.0 in cc))
  fault_by (suc d) f f' old bs left before (Err e) (Err x) at deep h tells = λ ne. inl (at ∙ (let q = h.0 in cc))
  fault_by (suc d) f f' old bs left before t (Ok x) at deep h tells = tt

  pub inside_fault : (d : ℕ) (f f' : F) (old : X) (bs left : List ℕ) (before : BudgetLeft) (r : Result T DecodeError) → d ≢ 0 → Lends g f (delimited_at bs) r f' left → Tells d f old before r f' →
      IfErr r (λ x. x ≢ error.OutOfMemory → MessageFault merged cost d old bs before x)
  inside_fault d f f' old bs left before r deep h tells = fault_by d f f' old bs left before (delimited_at bs) r refl deep h tells

  pub inside_spent : (d : ℕ) (f f' : F) (old new : X) (left : List ℕ) (before after : BudgetLeft) (t : Result (List ℕ × List ℕ) DecodeError) (r : Result T DecodeError) → d ≢ 0 → Lends g f t r f' left → Merges d f old before r f' new after →
      (f' ≡ f → after ≡ before) → OnErr r (PaysAtMost before (cost_of_payload cost d t) after)
  inside_spent zero f f' old new left before after t r deep h asks same = absurd (deep refl)
  inside_spent (suc d) f f' old new left before after (Ok p) (Err x) deep (inl c) asks same = let k : suc d - 1 ≡ d = omega arith in (rw (k, c.0.shows) at (asks c.0.shown c.0.called)).0
  inside_spent (suc d) f f' old new left before after (Ok p) (Err x) deep (inr n) asks same = PaysAtMost_nothing before after (cost d p.0) (same n.1)
  inside_spent (suc d) f f' old new left before after (Err e) (Err x) deep h asks same = PaysAtMost_nothing before after nothing (same h.1)
  inside_spent (suc d) f f' old new left before after t (Ok x) deep h asks same = tt

  -- memory ran out only where a level and the bytes are there
  pub inside_full : (d : ℕ) (f f' : F) (bs left : List ℕ) (r : Result T DecodeError) → d ≢ 0 → Lends g f (delimited_at bs) r f' left → FullOnlyIf r ((0 < d) × IsOk (delimited_at bs))
  inside_full d f f' bs left (Ok x) deep h = tt
  inside_full d f f' bs left (Err x) deep h = λ full. (omega (arith, deep), lent_full g f f' (Err x) bs left h full)

  -- what stands of those bytes where a call is refused
  abbrev Leaves : FieldRefused X → ℕ → F → X → BudgetLeft → Result T DecodeError → F → X → Type 0
  Leaves Refused d f old before r f' new = (p : Bor (List ℕ)) → Called g f (p, tt) r f' → IfErr r (λ e. PartlyMerged merged cost Refused (d - 1) old p.now before e new)

  partly_merged_by : (Refused : FieldRefused X) (d c : ℕ) (f f' : F) (old new : X) (b rest left : List ℕ) (before : BudgetLeft) (e : DecodeError) → d ≡ suc c → Lends g f (Ok (b, rest)) (Err e) f' left →
      Leaves Refused d f old before (Err e) f' new → (f' ≡ f → new ≡ old) → PartlyMerged merged cost Refused c old b before e new ⊎ ((e ≡ error.OutOfMemory) × (new ≡ old))
  partly_merged_by Refused d c f f' old new b rest left before e level (inl l) leaves same = let k : d - 1 ≡ c = omega (arith, level) in inl (rw (k, l.0.shows) at (leaves l.0.shown l.0.called))
  partly_merged_by Refused d c f f' old new b rest left before e level (inr n) leaves same = inr (let q = n.0 in cc, same n.1)

  -- last is what the value is at the end: the one that the call left
  pub inside_is_partly_merged : (Refused : FieldRefused X) (d : ℕ) (f f' : F) (old new last : X) (bs left : List ℕ) (before : BudgetLeft) (r : Result T DecodeError) → Lends g f (delimited_at bs) r f' left →
      Leaves Refused d f old before r f' new → (f' ≡ f → new ≡ old) → new ≡ last → IfErr r (λ e. PartlyMergedInside merged cost Refused d old bs before e last)
  inside_is_partly_merged Refused d f f' old new last bs left before (Ok x) h leaves same is = tt
  inside_is_partly_merged Refused d f f' old new last bs left before (Err e) h leaves same is =
      λ c b rest level at.
      subst (λ z. PartlyMerged merged cost Refused c old b before e z ⊎ ((e ≡ error.OutOfMemory) × (z ≡ old))) is
      (partly_merged_by Refused d c f f' old new b rest left before e level (subst (λ z. Lends g f z (Err e) f' left) at h) leaves same)

-- what merging promises of a refusal
pub merged_tells : {X T : Type 0} (meant : Option X) (charge before after : BudgetLeft) (new : X) (r : Result T DecodeError) → IsMerged meant charge before r new after → IfErr r (λ x. x ≢ error.OutOfMemory → MergeFault meant charge before x)
merged_tells meant charge before after new (Ok x) h = tt
merged_tells meant charge before after new (Err x) h = h.1

-- bytes that a field begins are some
pub tag_has_byte : (bs : List ℕ) → BeginsField bs → bs ≢ []
tag_has_byte bs (n, w, rest, tag, other) none = omega (arith, tag_falls bs (n, w, rest) tag, ap length none)

-- ---- a message of no bytes

none_reported : {X : Type 0} (d : ℕ) (v : X) (o : Option X) (charge before : BudgetLeft) (e : DecodeError) → o ≡ Some v → charge ≡ nothing →
    (e ≢ error.OutOfMemory → MergeFault o charge before e) → (e ≡ error.OutOfMemory → BeginsField []) → ⊥
none_reported d v o charge before error.OutOfMemory is free why full = tag_has_byte [] (full refl) refl
none_reported d v o charge before _ is free why full = elim (why (λ q. cc)) [
  | inl few ↦ elim few [ inl k ↦ omega (arith, k, ap (λ z. z.unknown) free) | inr k ↦ omega (arith, k, ap (λ z. z.memory) free) ]
  | inr bad ↦ let k = sym is ∙ bad.0 in cc
]

module _ {X T : Type 0} {takes : Taker X} {charge : Charge} {merged : ℕ → X → List ℕ → Option X} {cost : ℕ → List ℕ → BudgetLeft} (by : ByPayload takes charge merged cost) where
  pub none_merges : (d : ℕ) (old new : X) (b : List ℕ) (before after : BudgetLeft) (r : Result T DecodeError) → b ≡ [] → IsMerged (merged d old b) (cost d b) before r new after → FullOnlyIf r (BeginsField b) → IsOk r
  none_merges d old new b before after (Ok x) is h full = refl
  none_merges d old new b before after (Err e) is h full =
      absurd (none_reported d old (merged d old b) (cost d b) before e (ap (merged d old) is ∙ merged_empty by d old) (ap (cost d) is ∙ cost_empty by d) h.1 (λ q. subst BeginsField is (full q)))
