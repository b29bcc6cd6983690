-- What is proved of members that put records aside: they are parts of a message.
use Rattle.std.proofs.Common.{◌≡◌, inl, inr, ℕ, ◌==◌, ◌≤◌, true, List, [], ◌∷◌, ◌++◌, Option, Some, None, Result, Ok, Err, refl, sym, ap, subst, ◌∙◌, arith, append-nil, if◌then◌else◌}
use Rattle.std.specs.List.{AllByRecursion}
use Rattle.std.specs.Option.{option_map}
use Rattle.buffa_bytes.specs.declared.wire_type.WireType.{WireType}
use Rattle.buffa_bytes.specs.declared.error.DecodeError.{DecodeError}
use Rattle.buffa_bytes.specs.Readings.{FullOnlyIf}
use Rattle.buffa_wire.specs.BudgetLeft.{BudgetLeft}
use Rattle.buffa_wire.specs.Encoding.{payload_encoding, wire_of}
use Rattle.buffa_wire.specs.Records.{FieldData}
use Rattle.buffa_wire.specs.Takes.{IsTaken, Leads, Piece, ReadsBack, Taker}
use Rattle.buffa_fields.specs.UnknownsOfMembers.{AllUnknowns, Unknowns, Kept, ReadsBackWithUnknowns, TookWithUnknowns, unknowns_levels, kept_among, kept_behind}
use Rattle.buffa_fields.specs.Schema.{Choice, IsPutBehind, Shape}
use Rattle.buffa_fields.specs.facts.LevelFacts.{some_mapped}
use Rattle.buffa_fields.specs.Levels.{IsTakenWritten}

abbrev answer : Type 0
answer = Result (Unit {0}) DecodeError

module _ {A B : Type 0} (a : Unknowns A) (adds : B → Kept → B) where
  abbrev its : Taker (A × B)
  its d v n w p = option_map (kept_among adds v.1) (a.takes d (v.0, []) n w p)

  -- what stood beside it is kept, whatever that was
  there : (b c : B) (kept keeps : Kept) (u : A) → ((rs : Kept) → keeps ≡ kept ++ rs → c ≡ adds b rs) → (o : Option (A × Kept)) → option_map (kept_behind kept) o ≡ Some (u, keeps) → option_map (kept_among adds b) o ≡ Some (u, c)
  there b c kept keeps u put None h = cc
  there b c kept keeps u put (Some x) h =
      let both : (let y : A × Kept = (u, keeps) in kept_behind kept x ≡ y) = cc in
      λ i. Some ((both i).0, sym (put x.1 (sym (ap (λ (z : A × Kept). z.1) both))) i)

  nowhere : (b : B) (kept : Kept) (o : Option (A × Kept)) → option_map (kept_behind kept) o ≡ None → option_map (kept_among adds b) o ≡ None
  nowhere b kept None h = refl
  nowhere b kept (Some x) h = cc

  -- ---- a field is taken by it
  pub taken_with_unknowns : (d : ℕ) (v u : A) (b c : B) (kept keeps : Kept) (n : ℕ) (w : WireType) (bs : List ℕ) (before : BudgetLeft) (after : BudgetLeft) (rest : List ℕ) → ((rs : Kept) → keeps ≡ kept ++ rs → c ≡ adds b rs) →
      (r : answer) → IsTaken a.takes a.charge d (v, kept) n w bs before r (u, keeps) after rest → IsTaken its a.charge d (v, b) n w bs before r (u, c) after rest
  taken_with_unknowns d v u b c kept keeps n w bs before after rest put (Ok _) (p, payload, split, h, pays) =
      (p, payload, split, there b c kept keeps u put (a.takes d (v, []) n w p) (sym (a.behind d v kept n w p) ∙ h), pays)
  taken_with_unknowns d v u b c kept keeps n w bs before after rest put (Err _) (pays, why, full) = (
    pays,
    λ ne. elim (why ne) [
      | inl few ↦ inl few
      | inr refused ↦ inr ((λ p x payload split. nowhere b kept (a.takes d (v, []) n w p) (sym (a.behind d v kept n w p) ∙ refused.0 p x payload split)), refused.1)
    ],
    full,
  )

  -- ---- its own records read back
  module _ (adds_none : (b : B) → adds b [] ≡ b) (adds_twice : (b : B) (x y : Kept) → adds (adds b x) y ≡ adds b (x ++ y)) where
    joins : (b : B) (kept : Kept) (u : A × Kept) (o : Option (A × Kept)) → option_map (kept_behind kept) o ≡ Some u → option_map (kept_among adds (adds b kept)) o ≡ Some (u.0, adds b u.1)
    joins b kept u None h = cc
    joins b kept u (Some x) h =
        let one : (let y : A × Kept = (x.0, kept ++ x.1) in y ≡ u) = cc in
        ap (λ z. Some (x.0, z)) (adds_twice b kept x.1) ∙ ap (λ (z : A × Kept). Some (z.0, adds b z.1)) one

    its_lead : (k d : ℕ) (b : B) (t : A × Kept) (fs : List Piece) (v : A) (kept : Kept) → Leads a.takes (λ n. n == k) d (v, kept) fs t → Leads its (λ n. n == k) d (v, adds b kept) fs (t.0, adds b t.1)
    its_lead k d b t [] v kept h = ap (λ (x : A × Kept). (x.0, adds b x.1)) h
    its_lead k d b t (x ∷ fs) v kept (is, tag, payload, u, h, l) = (
      is,
      tag,
      payload,
      (u.0, adds b u.1),
      joins b kept u (a.takes d (v, []) x.number x.wire x.payload) (sym (a.behind d v kept x.number x.wire x.payload) ∙ h),
      its_lead k d b t fs u.0 u.1 l,
    )

    pub back_with_unknowns : (k d : ℕ) (v u : A) (b : B) (encoding : List ℕ) → ReadsBack a.takes (λ n. n == k) d (v, []) encoding (u, []) → ReadsBack its (λ n. n == k) d (v, b) encoding (u, b)
    back_with_unknowns k d v u b encoding x = record {
      pieces = x.pieces;
      spelled = x.spelled;
      leads = subst (λ z. Leads its (λ n. n == k) d (v, z) x.pieces (u, z)) (adds_none b) (its_lead k d b (u, []) x.pieces v [] x.leads);
    }

  -- ---- what is kept is put behind the others again
  pub again_with_unknowns : {P : Type 0} (s : Shape P A) → ReadsBackWithUnknowns s a → (k d : ℕ) (ys : Kept) → AllUnknowns k a.AreUnknowns ys → unknowns_levels k a.levels ys ≤ d →
      AllByRecursion (λ y. (y.0 == k) ≡ true → IsPutBehind its (λ v rs. (v.0, adds v.1 rs)) d y) ys
  again_with_unknowns s owes k d [] all low = tt
  again_with_unknowns s owes k d (y ∷ ys) all low = (one, again_with_unknowns s owes k d ys all.1 (omega (arith, low)))
    where
      one : (y.0 == k) ≡ true → IsPutBehind its (λ v rs. (v.0, adds v.1 rs)) d y
      one is = λ v p payload.
          let unknowns : a.AreUnknowns y.1 = subst (λ z. Choice z (a.AreUnknowns y.1) (Unit {0})) is all.0 in
          let fits : a.levels y.1 ≤ d = omega (arith, low, ap (λ z. if z then a.levels y.1 else 0) is) in
          ap (option_map (kept_among adds v.1)) (owes.again y.0 d v.0 y.1 p unknowns fits payload)

  -- ---- what it takes, it takes by itself
  alone : (d : ℕ) (y : ℕ × FieldData) → IsTakenWritten its d y → IsTakenWritten a.takes d y
  alone d y (number, fits, low, v, u, h) =
      let t = some_mapped (kept_among adds v.1) (a.takes d (v.0, []) y.0 (wire_of y.1) (payload_encoding y.0 y.1)) u h in
      (number, fits, low, (v.0, []), t.0, t.1)

  pub all_alone : (d : ℕ) (ys : Kept) → AllByRecursion (IsTakenWritten its d) ys → AllByRecursion (IsTakenWritten a.takes d) ys
  all_alone d [] h = tt
  all_alone d (y ∷ ys) h = (alone d y h.0, all_alone d ys h.1)

  pub kept_alone : (k d : ℕ) (ys : Kept) → AllByRecursion (λ y. (y.0 == k) ≡ true → IsTakenWritten its d y) ys → AllByRecursion (λ y. (y.0 == k) ≡ true → IsTakenWritten a.takes d y) ys
  kept_alone k d [] h = tt
  kept_alone k d (y ∷ ys) h = (λ is. alone d y (h.0 is), kept_alone k d ys h.1)

-- ---- what a call owes that took a field
module _ {P A : Type 0} (s : Shape P A) (a : Unknowns A) (d : ℕ) (p q : P) (kept keeps : Kept) (n : ℕ) (w : WireType) (bs : List ℕ) (before : BudgetLeft) (after : BudgetLeft) (rest : List ℕ) where
  pub is_taken_with_unknowns : (r : answer) → TookWithUnknowns s a d p kept n w bs before r q keeps after rest → IsTaken a.takes a.charge d (s.meaning p, kept) n w bs before r (s.meaning q, keeps) after rest
  unfolding TookWithUnknowns
  is_taken_with_unknowns r h = h.0

  pub asks_with_unknowns : (r : answer) → TookWithUnknowns s a d p kept n w bs before r q keeps after rest → FullOnlyIf r (a.asks before.unknown d n w bs)
  unfolding TookWithUnknowns
  asks_with_unknowns r h = h.1

  -- what is kept stays where the field is refused
  pub stays_with_unknowns : (e : DecodeError) → TookWithUnknowns s a d p kept n w bs before (let r : answer = Err e in r) q keeps after rest → keeps ≡ kept ++ []
  unfolding TookWithUnknowns
  stays_with_unknowns e h = sym (h.3 e refl).1 ∙ sym (append-nil kept)
