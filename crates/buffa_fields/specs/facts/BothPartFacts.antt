-- What is proved of two parts that are one.
use Rattle.std.proofs.Common.{◌≡◌, ℕ, Bool, true, false, not, ◌||◌, List, [], ◌∷◌, ◌++◌, Option, Some, Result, Err, refl, sym, ap, subst, ◌∙◌, arith, append-nil}
use Rattle.std.proofs.lemmas.Bool.{or_left, or_right}
use Rattle.std.specs.List.{AllByRecursion}
use Rattle.std.specs.Option.{option_map}
use Rattle.buffa_bytes.specs.Readings.{FullOnlyIf}
use Rattle.buffa_bytes.specs.declared.error.DecodeError.{DecodeError}
use Rattle.buffa_bytes.specs.declared.wire_type.WireType.{WireType}
use Rattle.buffa_wire.specs.BudgetLeft.{BudgetLeft}
use Rattle.buffa_wire.specs.Encoding.{payload_encoding, records_encoding, wire_of}
use Rattle.buffa_wire.specs.ReadableFacts.{valid_joined}
use Rattle.buffa_wire.specs.Records.{FieldData}
use Rattle.buffa_wire.specs.Takes.{IsTaken, Leads, Piece, ReadsBack}
use Rattle.buffa_fields.specs.UnknownsOfMembers.{Kept}
use Rattle.buffa_fields.specs.TwoPartsAreOne.{adds_with_unknowns, no_unknowns_part, both_part, inward, none_given, outward, part_within, second_put}
use Rattle.buffa_fields.specs.facts.BlankFacts.{same_false_only}
use Rattle.buffa_fields.specs.UndeclaredFields.{AllNumbers}
use Rattle.buffa_fields.specs.Schema.{Choice, IsPutBehind}
use Rattle.buffa_fields.specs.facts.SchemaFacts.{part_seen}
use Rattle.buffa_fields.specs.facts.LevelFacts.{all_turn, back_holds, both_numbers, front_holds, some_mapped}
use Rattle.buffa_fields.specs.Levels.{IsTakenWritten}
use Rattle.buffa_fields.specs.facts.MemberPartFacts.{none_mine}
use Rattle.buffa_fields.specs.facts.FieldAndOthersFacts.{either_stays, joined_back, part_taken, readable_both}
use Rattle.buffa_fields.specs.MessageParts.{Part, PartLaws}

abbrev answer : Type 0
answer = Result (Unit {0}) DecodeError

-- what is the same of the others where a part takes a field: all of them, or all but what is kept
pub record Leaves {M A : Type 0} (keeps : Bool) (p : Part M A) : Type 1 where
  pub others : (S E : M → M → Type 0) (a b : M) → Choice keeps (E a b) (S a b) → p.Others S E a b
  pub only : (S E : M → M → Type 0) (a b : M) → p.Others S E a b → Choice keeps (E a b) (S a b)

-- none of the records that may be kept is of its numbers
pub record Alone {M A : Type 0} (p : Part M A) : Type 0 where
  pub none : (kept : Kept) → p.WithUnknowns kept → AllNumbers (λ n. not (p.mine n)) kept

pub keeps_none : {M A : Type 0} (p : Part M A) → true ≡ false → Alone p
keeps_none p is = cc

second_mine : (a b : Bool) → a ≡ false → (a || b) ≡ true → b ≡ true
second_mine a b off is = subst (λ z. (z || b) ≡ true) off is

neither : (a b : Bool) → a ≡ false → b ≡ false → (a || b) ≡ false
neither a b off also = rw (off, also) refl

-- all that holds of records of either
either_holds : (P : ℕ × FieldData → Type 0) (f g : ℕ → Bool) (ys : Kept) → AllByRecursion (λ y. f y.0 ≡ true → P y) ys → AllByRecursion (λ y. g y.0 ≡ true → P y) ys →
    AllByRecursion (λ y. (f y.0 || g y.0) ≡ true → P y) ys
either_holds P f g [] a b = tt
either_holds P f g (y ∷ ys) a b = (one (f y.0) refl, either_holds P f g ys a.1 b.1)
  where
    one : (t : Bool) → f y.0 ≡ t → (f y.0 || g y.0) ≡ true → P y
    one true is _ = a.0 is
    one false off is = b.0 (second_mine (f y.0) (g y.0) off is)

module _ {P Q A B : Type 0} (p : Part P A) (q : Part Q B) (keeps : Bool) (laws : PartLaws p) (others : PartLaws q) (leaves : Leaves keeps p) (also : Leaves keeps q) where
  abbrev both : Part (P × Q) (A × B)
  both = both_part p q keeps

  -- ---- by which of the two a field is taken
  module _ {C : Type 0} (adds : C → Kept → C) where
    first_does : (d : ℕ) (v : (A × B) × C) (n : ℕ) (w : WireType) (x : List ℕ) → p.mine n ≡ true → both.takes adds d v n w x ≡ option_map outward (p.takes (adds_with_unknowns {B = B} adds) d (inward v) n w x)
    first_does d v n w x is = rw is refl

    second_does : (d : ℕ) (v : (A × B) × C) (n : ℕ) (w : WireType) (x : List ℕ) → p.mine n ≡ false → both.takes adds d v n w x ≡ option_map (second_put v.0.0) (q.takes adds d (v.0.1, v.1) n w x)
    second_does d v n w x off = rw off refl

  first_costs : (d n : ℕ) (w : WireType) (bs : List ℕ) → p.mine n ≡ true → both.charge d n w bs ≡ p.charge d n w bs
  first_costs d n w bs is = rw is refl

  second_costs : (d n : ℕ) (w : WireType) (bs : List ℕ) → p.mine n ≡ false → both.charge d n w bs ≡ q.charge d n w bs
  second_costs d n w bs off = rw off refl

  both_fine : (D : ℕ → Bool) (keeping sound : Bool) → both.sound D keeping sound ≡ true → both.Fine × ((n : ℕ) → D n ≡ true → both.mine n ≡ false) × (sound ≡ true)
  both_fine D keeping sound ok =
      let one = laws.fine (λ n. q.mine n || D n) keeping (q.sound D keeping sound) ok in
      let two = others.fine D keeping sound one.2 in
      ((one.0, two.0, λ n is. one.1 n (or_left (q.mine n) (D n) is)), (λ n is. neither (p.mine n) (q.mine n) (one.1 n (or_right (q.mine n) (D n) is)) (two.1 n is)), two.2)

  -- ---- a field is taken
  module _ {C : Type 0} (adds : C → Kept → C) (b c : C) (kept keeping : Kept) (S E : P × Q → P × Q → Type 0) (d : ℕ) (old : P × Q) (n : ℕ) (w : WireType) (bs : List ℕ) (before : BudgetLeft) (r : answer) (new : P × Q) (after : BudgetLeft) (rest : List ℕ)
      (same : S old new → b ≡ c) (but : E old new → (rs : Kept) → keeping ≡ kept ++ rs → c ≡ adds b rs) where
    abbrev First : Type 0
    First = p.Took d old.0 kept n w bs before r new.0 keeping after rest × (new.1 ≡ old.1)

    abbrev Second : Type 0
    Second = (new.0 ≡ old.0) × q.Took d old.1 kept n w bs before r new.1 keeping after rest

    abbrev Is : Type 0
    Is = IsTaken (both.takes adds) both.charge d (both.meaning old, b) n w bs before r (both.meaning new, c) after rest

    by_first : p.mine n ≡ true → First → Choice keeps (E old new) (S old new) → Is
    by_first is h left =
        part_taken (p.takes (adds_with_unknowns {B = B} adds)) p.charge (both.takes adds) both.charge d n w (p.meaning old.0, (q.meaning old.1, b)) (both.meaning old, b) outward
        (λ x. first_does adds d (both.meaning old, b) n w x is) (λ x. first_costs d n w x is) bs rest before after r (p.meaning new.0, (q.meaning new.1, c))
        (laws.taken_is (adds_with_unknowns adds) (q.meaning old.1, b) (q.meaning new.1, c) kept keeping (λ _ _. S old new) (λ _ _. E old new) d old.0 n w bs before r new.0 after rest is
        (λ s. λ i. (q.meaning (sym h.1 i), same s i)) (λ e rs at. λ i. (q.meaning (h.1 i), but e rs at i))
        (h.0, leaves.others (λ _ _. S old new) (λ _ _. E old new) old.0 new.0 left))

    by_second : p.mine n ≡ false → both.mine n ≡ true → Second → Choice keeps (E old new) (S old new) → Is
    by_second off is h left =
        subst (λ z. IsTaken (both.takes adds) both.charge d (both.meaning old, b) n w bs before r ((z, q.meaning new.1), c) after rest) (ap p.meaning (sym h.0))
        (part_taken (q.takes adds) q.charge (both.takes adds) both.charge d n w (q.meaning old.1, b) (both.meaning old, b) (second_put (p.meaning old.0))
        (λ x. second_does adds d (both.meaning old, b) n w x off) (λ x. second_costs d n w x off) bs rest before after r (q.meaning new.1, c)
        (others.taken_is adds b c kept keeping (λ _ _. S old new) (λ _ _. E old new) d old.1 n w bs before r new.1 after rest (second_mine (p.mine n) (q.mine n) off is)
        same but (h.1, also.others (λ _ _. S old new) (λ _ _. E old new) old.1 new.1 left)))

    either_taken : (t : Bool) → p.mine n ≡ t → both.mine n ≡ true → Choice t First Second → Choice keeps (E old new) (S old new) → Is
    either_taken true is mine h left = by_first is h left
    either_taken false off mine h left = by_second off mine h left

  both_asks : (kept keeping : Kept) (d : ℕ) (old : P × Q) (n : ℕ) (w : WireType) (bs : List ℕ) (before : BudgetLeft) (r : answer) (new : P × Q) (after : BudgetLeft) (rest : List ℕ) →
      both.mine n ≡ true → both.Took d old kept n w bs before r new keeping after rest → FullOnlyIf r (both.asks before.unknown d n w bs)
  both_asks kept keeping d old n w bs before r new after rest mine h = at (p.mine n) refl h
    where
      at : (t : Bool) → p.mine n ≡ t → Choice t (p.Took d old.0 kept n w bs before r new.0 keeping after rest × (new.1 ≡ old.1)) ((new.0 ≡ old.0) × q.Took d old.1 kept n w bs before r new.1 keeping after rest) →
          FullOnlyIf r (Choice t (p.asks before.unknown d n w bs) (q.asks before.unknown d n w bs))
      at true is own = laws.asks_is kept keeping d old.0 n w bs before r new.0 after rest is own.0
      at false off its = others.asks_is kept keeping d old.1 n w bs before r new.1 after rest (second_mine (p.mine n) (q.mine n) off mine) its.1

  -- of a refused field the others stay
  both_differ_only_at : {C : Type 0} (adds : C → Kept → C) (b c : C) → adds b [] ≡ b → (kept keeping : Kept) (S E : P × Q → P × Q → Type 0) (d : ℕ) (old : P × Q) (n : ℕ) (w : WireType) (bs : List ℕ) (before : BudgetLeft) (e : DecodeError) (new : P × Q) (after : BudgetLeft) (rest : List ℕ) →
      (S old new → b ≡ c) → (E old new → (rs : Kept) → keeping ≡ kept ++ rs → c ≡ adds b rs) → both.Took d old kept n w bs before (let r : answer = Err e in r) new keeping after rest × Choice keeps (E old new) (S old new) → b ≡ c
  both_differ_only_at adds b c none kept keeping S E d old n w bs before e new after rest same but h = at (p.mine n) h.0
    where
      at : (t : Bool) → Choice t (p.Took d old.0 kept n w bs before (let r : answer = Err e in r) new.0 keeping after rest × (new.1 ≡ old.1)) ((new.0 ≡ old.0) × q.Took d old.1 kept n w bs before (let r : answer = Err e in r) new.1 keeping after rest) → b ≡ c
      at true own =
          laws.differs_only adds b c none kept keeping (λ _ _. S old new) (λ _ _. E old new) d old.0 n w bs before e new.0 after rest same but (own.0, leaves.others (λ _ _. S old new) (λ _ _. E old new) old.0 new.0 h.1)
      at false its =
          others.differs_only adds b c none kept keeping (λ _ _. S old new) (λ _ _. E old new) d old.1 n w bs before e new.1 after rest same but (its.1, also.others (λ _ _. S old new) (λ _ _. E old new) old.1 new.1 h.1)

  -- ---- encodings that read back
  module _ {C : Type 0} (adds : C → Kept → C) (d : ℕ) where
    first_lead : (s t : A × (B × C)) (fs : List Piece) → Leads (p.takes (adds_with_unknowns {B = B} adds)) p.mine d s fs t → Leads (both.takes adds) both.mine d (outward s) fs (outward t)
    first_lead s t [] h = ap outward h
    first_lead s t (x ∷ fs) (is, tag, payload, u, h, l) =
        (or_left (p.mine x.number) (q.mine x.number) is, tag, payload, outward u, first_does adds d (outward s) x.number x.wire x.payload is ∙ ap (option_map outward) h, first_lead u t fs l)

    second_lead : ((n : ℕ) → q.mine n ≡ true → p.mine n ≡ false) → (a : A) (s t : B × C) (fs : List Piece) → Leads (q.takes adds) q.mine d s fs t → Leads (both.takes adds) both.mine d (second_put a s) fs (second_put a t)
    second_lead off a s t [] h = ap (second_put a) h
    second_lead off a s t (x ∷ fs) (is, tag, payload, u, h, l) = (
      or_right (p.mine x.number) (q.mine x.number) is,
      tag,
      payload,
      second_put a u,
      second_does adds d (second_put a s) x.number x.wire x.payload (off x.number is) ∙ ap (option_map (second_put a)) h,
      second_lead off a u t fs l,
    )

    both_back : ((n : ℕ) → q.mine n ≡ true → p.mine n ≡ false) → (a z : A) (b y : B) (c : C) (xs ys : Kept) → ReadsBack (p.takes (adds_with_unknowns {B = B} adds)) p.mine d (z, (y, c)) (records_encoding xs) (a, (y, c)) →
        ReadsBack (q.takes adds) q.mine d (y, c) (records_encoding ys) (b, c) → ReadsBack (both.takes adds) both.mine d ((z, y), c) (records_encoding (xs ++ ys)) ((a, b), c)
    both_back off a z b y c xs ys f g =
        joined_back (both.takes adds) both.mine d ((z, y), c) ((a, y), c) ((a, b), c) xs ys f.pieces g.pieces f.spelled g.spelled (first_lead (z, (y, c)) (a, (y, c)) f.pieces f.leads) (second_lead off a (y, c) (b, c) g.pieces g.leads)

    -- ---- what is kept is put behind the others again
    first_again : (y : ℕ × FieldData) → p.mine y.0 ≡ true → IsPutBehind (p.takes (adds_with_unknowns {B = B} adds)) (λ v rs. (v.0, adds_with_unknowns {B = B} adds v.1 rs)) d y → IsPutBehind (both.takes adds) (λ v rs. (v.0, adds v.1 rs)) d y
    first_again y is h = λ v x payload. first_does adds d v y.0 (wire_of y.1) x is ∙ ap (option_map outward) (h (inward v) x payload)

    second_again : (y : ℕ × FieldData) → p.mine y.0 ≡ false → IsPutBehind (q.takes adds) (λ v rs. (v.0, adds v.1 rs)) d y → IsPutBehind (both.takes adds) (λ v rs. (v.0, adds v.1 rs)) d y
    second_again y off h = λ v x payload. second_does adds d v y.0 (wire_of y.1) x off ∙ ap (option_map (second_put v.0.0)) (h (v.0.1, v.1) x payload)

    abbrev Again : ℕ × FieldData → Type 0
    Again y = IsPutBehind (both.takes adds) (λ v rs. (v.0, adds v.1 rs)) d y

    both_again : (ys : Kept) → AllByRecursion (λ y. p.mine y.0 ≡ true → IsPutBehind (p.takes (adds_with_unknowns {B = B} adds)) (λ v rs. (v.0, adds_with_unknowns {B = B} adds v.1 rs)) d y) ys →
        AllByRecursion (λ y. q.mine y.0 ≡ true → IsPutBehind (q.takes adds) (λ v rs. (v.0, adds v.1 rs)) d y) ys → AllByRecursion (λ y. both.mine y.0 ≡ true → Again y) ys
    both_again [] f g = tt
    both_again (y ∷ ys) f g = (one (p.mine y.0) refl, both_again ys f.1 g.1)
      where
        one : (t : Bool) → p.mine y.0 ≡ t → both.mine y.0 ≡ true → Again y
        one true is mine = first_again y is (f.0 is)
        one false off mine = second_again y off (g.0 (second_mine (p.mine y.0) (q.mine y.0) off mine))

    -- ---- levels
    first_one : (y : ℕ × FieldData) → p.mine y.0 ≡ true → IsTakenWritten (both.takes adds) d y → IsTakenWritten (p.takes (adds_with_unknowns {B = B} adds)) d y
    first_one y is (number, fits, low, v, u, h) =
        let t = some_mapped outward (p.takes (adds_with_unknowns {B = B} adds) d (inward v) y.0 (wire_of y.1) (payload_encoding y.0 y.1)) u (sym (first_does adds d v y.0 (wire_of y.1) (payload_encoding y.0 y.1) is) ∙ h) in
        (number, fits, low, inward v, t.0, t.1)

    second_one : (y : ℕ × FieldData) → p.mine y.0 ≡ false → IsTakenWritten (both.takes adds) d y → IsTakenWritten (q.takes adds) d y
    second_one y off (number, fits, low, v, u, h) =
        let t = some_mapped (second_put v.0.0) (q.takes adds d (v.0.1, v.1) y.0 (wire_of y.1) (payload_encoding y.0 y.1)) u (sym (second_does adds d v y.0 (wire_of y.1) (payload_encoding y.0 y.1) off) ∙ h) in
        (number, fits, low, (v.0.1, v.1), t.0, t.1)

    first_kept : (ys : Kept) → AllByRecursion (λ y. both.mine y.0 ≡ true → IsTakenWritten (both.takes adds) d y) ys → AllByRecursion (λ y. p.mine y.0 ≡ true → IsTakenWritten (p.takes (adds_with_unknowns {B = B} adds)) d y) ys
    first_kept [] h = tt
    first_kept (y ∷ ys) h = (λ is. first_one y is (h.0 (or_left (p.mine y.0) (q.mine y.0) is)), first_kept ys h.1)

    second_kept : ((n : ℕ) → q.mine n ≡ true → p.mine n ≡ false) → (ys : Kept) → AllByRecursion (λ y. both.mine y.0 ≡ true → IsTakenWritten (both.takes adds) d y) ys → AllByRecursion (λ y. q.mine y.0 ≡ true → IsTakenWritten (q.takes adds) d y) ys
    second_kept off [] h = tt
    second_kept off (y ∷ ys) h = (λ is. second_one y (off y.0 is) (h.0 (or_right (p.mine y.0) (q.mine y.0) is)), second_kept off ys h.1)

  pub both_laws : PartLaws both
  both_laws = record {
    fine = both_fine;
    stays = either_stays p.mine p.charge q.charge laws.stays others.stays;
    same_is = λ a b h. ap both.meaning (sym h);
    seen_is = λ m z. part_seen (q.seen m.1 (p.seen m.0 z)) (p.seen m.0 z) z (p.records (p.meaning m.0)) (q.records (q.meaning m.1)) (p.slots (p.meaning m.0)) (q.slots (q.meaning m.1)) (others.seen_is m.1 (p.seen m.0 z)) (laws.seen_is m.0 z);
    taken_is = λ adds b c kept keeping S E d old n w bs before r new after rest mine same but h. either_taken adds b c kept keeping S E d old n w bs before r new after rest same but (p.mine n) refl mine h.0 h.1;
    asks_is = both_asks;
    differs_only = both_differ_only_at;
    others_low = λ v m kept. omega (arith, laws.others_low v.0 (q.levels v.1 m kept) kept, others.others_low v.1 m kept);
    valid = λ owes fine v normal. valid_joined (p.records v.0) (q.records v.1) (laws.valid owes.0 fine.0 v.0 normal.0) (others.valid owes.1 fine.1 v.1 normal.1);
    back = λ owes fine adds none twice d v m kept b fits normal low.
        let each = readable_both (p.records v.0) (q.records v.1) fits in
        let lower = laws.others_low v.0 (q.levels v.1 m kept) kept in
        both_back adds d fine.2 v.0 p.blank v.1 q.blank b (p.records v.0) (q.records v.1)
        (laws.back owes.0 fine.0 (adds_with_unknowns adds) (λ x. λ i. (x.0, none x.1 i)) (λ x y z. λ i. (x.0, twice x.1 y z i)) d v.0 (q.levels v.1 m kept) kept (q.blank, b) each.0 normal.0 low)
        (others.back owes.1 fine.1 adds none twice d v.1 m kept b each.1 normal.1 (omega (arith, low, lower)));
    again = λ owes adds d v m kept beside low.
        let lower = laws.others_low v.0 (q.levels v.1 m kept) kept in
        both_again adds d kept (laws.again owes.0 (adds_with_unknowns adds) d v.0 (q.levels v.1 m kept) kept beside.0 low) (others.again owes.1 adds d v.1 m kept beside.1 (omega (arith, low, lower)));
    numbers = λ owes exact v. both_numbers p.mine q.mine (p.records v.0) (q.records v.1) (laws.numbers owes.0 exact.0 v.0) (others.numbers owes.1 exact.1 v.1);
    least = λ owes exact fine adds d v m kept normal beside low own unknowns.
        let second = others.least owes.1 exact.1 fine.1 adds d v.1 m kept normal.1 beside.1 low
        (all_turn (IsTakenWritten (both.takes adds) d) (IsTakenWritten (q.takes adds) d) q.mine (λ y is. second_one adds d y (fine.2 y.0 is)) (q.records v.1) (others.numbers owes.1 exact.1 v.1) (back_holds (IsTakenWritten (both.takes adds) d) (p.records v.0) (q.records v.1) own))
        (second_kept adds d fine.2 kept unknowns) in
        laws.least owes.0 exact.0 fine.0 (adds_with_unknowns adds) d v.0 (q.levels v.1 m kept) kept normal.0 beside.0 second
        (all_turn (IsTakenWritten (both.takes adds) d) (IsTakenWritten (p.takes (adds_with_unknowns {B = B} adds)) d) p.mine (first_one adds d) (p.records v.0) (laws.numbers owes.0 exact.0 v.0) (front_holds (IsTakenWritten (both.takes adds) d) (p.records v.0) (q.records v.1) own))
        (first_kept adds d kept unknowns);
  }

module _ {M P A : Type 0} (get : M → P) (p : Part P A) (laws : PartLaws p) where
  pub within_laws : PartLaws (part_within get p)
  within_laws = record {
    fine = laws.fine;
    stays = laws.stays;
    same_is = λ a b h. ap p.meaning (sym h);
    seen_is = λ m z. laws.seen_is (get m) z;
    taken_is = λ adds b c kept keeping S E d old n w bs before r new after rest is same but h.
        laws.taken_is adds b c kept keeping (λ _ _. S old new) (λ _ _. E old new) d (get old) n w bs before r (get new) after rest is same but h;
    asks_is = λ kept keeping d old n w bs before r new after rest is h. laws.asks_is kept keeping d (get old) n w bs before r (get new) after rest is h;
    differs_only = λ adds b c none kept keeping S E d old n w bs before e new after rest same but h.
        laws.differs_only adds b c none kept keeping (λ _ _. S old new) (λ _ _. E old new) d (get old) n w bs before e (get new) after rest same but h;
    others_low = laws.others_low;
    valid = laws.valid;
    back = laws.back;
    again = laws.again;
    numbers = laws.numbers;
    least = laws.least;
  }

pub both_leave : {P Q A B : Type 0} (p : Part P A) (q : Part Q B) (keeps : Bool) → Leaves keeps (both_part p q keeps)
both_leave p q keeps = record { others = λ S E a b h. h; only = λ S E a b h. h }

-- none that is kept is of either's numbers
neither_mine : (f g : ℕ → Bool) (ys : Kept) → AllNumbers (λ n. not (f n)) ys → AllNumbers (λ n. not (g n)) ys → AllNumbers (λ n. not (f n || g n)) ys
neither_mine f g [] a b = tt
neither_mine f g (y ∷ ys) a b =
    let off = neither (f y.0) (g y.0) (same_false_only (f y.0) a.0) (same_false_only (g y.0) b.0) in
    (rw off refl, neither_mine f g ys a.1 b.1)

pub both_alone : {P Q A B : Type 0} (p : Part P A) (q : Part Q B) (keeps : Bool) → Alone p → Alone q → Alone (both_part p q keeps)
both_alone p q keeps a b = record { none = λ kept beside. neither_mine p.mine q.mine kept (a.none kept beside.0) (b.none kept beside.1) }

module _ {M A : Type 0} (p : Part M A) (laws : PartLaws p) (leaves : Leaves false p) (alone : Alone p) where
  module _ {C : Type 0} (adds : C → Kept → C) (d : ℕ) where
    no_unknowns_lead : ((c : C) → adds c [] ≡ c) → (s t : A × C) (fs : List Piece) → Leads (p.takes adds) p.mine d s fs t → Leads ((no_unknowns_part p).takes adds) p.mine d s fs t
    no_unknowns_lead none s t [] h = h
    no_unknowns_lead none s t (x ∷ fs) (is, tag, payload, u, h, l) =
        (is, tag, payload, u, ap (option_map (none_given p adds)) h ∙ (λ i. let z : Option (A × C) = Some (u.0, none u.1 i) in z), no_unknowns_lead none u t fs l)

    no_unknowns_written : (ys : Kept) → AllByRecursion (IsTakenWritten ((no_unknowns_part p).takes adds) d) ys → AllByRecursion (IsTakenWritten (p.takes adds) d) ys
    no_unknowns_written [] h = tt
    no_unknowns_written (y ∷ ys) ((number, fits, low, v, u, h), more) =
        let t = some_mapped (none_given p adds) (p.takes adds d v y.0 (wire_of y.1) (payload_encoding y.0 y.1)) u h in
        ((number, fits, low, v, t.0, t.1), no_unknowns_written ys more)

    no_unknowns_kept : (ys : Kept) → AllByRecursion (λ y. p.mine y.0 ≡ true → IsTakenWritten ((no_unknowns_part p).takes adds) d y) ys → AllByRecursion (λ y. p.mine y.0 ≡ true → IsTakenWritten (p.takes adds) d y) ys
    no_unknowns_kept [] h = tt
    no_unknowns_kept (y ∷ ys) h = ((λ is. (no_unknowns_written (y ∷ []) (h.0 is, tt)).0), no_unknowns_kept ys h.1)

  no_unknowns_taken : {C : Type 0} (adds : C → Kept → C) (b c : C) (kept keeping : Kept) (E : M → M → Type 0) (d : ℕ) (old : M) (n : ℕ) (w : WireType) (bs : List ℕ) (before : BudgetLeft) (r : answer) (new : M) (after : BudgetLeft) (rest : List ℕ) → p.mine n ≡ true →
      (E old new → (rs : Kept) → keeping ≡ kept ++ rs → c ≡ adds b rs) → (p.Took d old kept n w bs before r new keeping after rest × (keeping ≡ kept)) × E old new →
      IsTaken ((no_unknowns_part p).takes adds) p.charge d (p.meaning old, b) n w bs before r (p.meaning new, c) after rest
  no_unknowns_taken adds b c kept keeping E d old n w bs before r new after rest mine but h =
      subst (λ z. IsTaken ((no_unknowns_part p).takes adds) p.charge d (p.meaning old, b) n w bs before r (p.meaning new, z) after rest) (sym (but h.1 [] (h.0.1 ∙ sym (append-nil kept))))
      (part_taken (p.takes adds) p.charge ((no_unknowns_part p).takes adds) p.charge d n w (p.meaning old, b) (p.meaning old, b) (none_given p adds) (λ x. refl) (λ x. refl) bs rest before after r (p.meaning new, b)
      (laws.taken_is adds b b kept keeping (λ _ _. Unit {0}) (λ _ _. ⊥) d old n w bs before r new after rest mine (λ _. refl) (λ no. absurd no) (h.0.0, leaves.others (λ _ _. Unit {0}) (λ _ _. ⊥) old new tt)))

  pub no_unknowns_laws : PartLaws (no_unknowns_part p)
  no_unknowns_laws = record {
    fine = laws.fine;
    stays = laws.stays;
    same_is = laws.same_is;
    seen_is = laws.seen_is;
    taken_is = λ adds b c kept keeping S E d old n w bs before r new after rest mine same but h. no_unknowns_taken adds b c kept keeping E d old n w bs before r new after rest mine but h;
    asks_is = λ kept keeping d old n w bs before r new after rest mine h. laws.asks_is kept keeping d old n w bs before r new after rest mine h.0;
    differs_only = λ adds b c none kept keeping S E d old n w bs before e new after rest same but h. sym (but h.1 [] (h.0.1 ∙ sym (append-nil kept)) ∙ none);
    others_low = laws.others_low;
    valid = laws.valid;
    back = λ owes fine adds none twice d v m kept b fits normal low.
        let one = laws.back owes fine adds none twice d v m kept b fits normal low in
        record { pieces = one.pieces; spelled = one.spelled; leads = no_unknowns_lead adds d none (p.blank, b) (v, b) one.pieces one.leads };
    again = λ owes adds d v m kept beside low. none_mine p.mine _ kept (alone.none kept beside);
    numbers = laws.numbers;
    least = λ owes exact fine adds d v m kept normal beside low own unknowns. laws.least owes exact fine adds d v m kept normal beside low (no_unknowns_written adds d (p.records v) own) (no_unknowns_kept adds d kept unknowns);
  }
