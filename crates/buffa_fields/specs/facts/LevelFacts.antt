-- What is proved of the levels of lists of members: they are exact, where those of the members are.
use Rattle.std.proofs.Common.{◌≡◌, ℕ, ◌==◌, ◌≤◌, Bool, true, false, ◌||◌, List, [], ◌∷◌, ◌++◌, Option, Some, None, refl, sym, ◌∙◌, arith, if◌then◌else◌}
use Rattle.std.proofs.lemmas.Bool.{or_left, or_right}
use Rattle.std.specs.List.{AllByRecursion}
use Rattle.std.specs.Option.{option_map}
use Rattle.buffa_bytes.specs.declared.wire_type.WireType.{WireType}
use Rattle.buffa_wire.specs.Encoding.{payload_encoding, wire_of}
use Rattle.buffa_wire.specs.Records.{FieldData, height}
use Rattle.buffa_wire.specs.Takes.{Taker}
use Rattle.buffa_fields.specs.UnknownsOfMembers.{AllUnknowns, Unknowns, IsExactWithUnknowns, Kept, unknowns_levels}
use Rattle.buffa_fields.specs.UndeclaredFields.{AllNumbers}
use Rattle.buffa_fields.specs.Schema.{Choice, Schema, Shape}
use Rattle.buffa_fields.specs.Levels.{IsTakenWritten}

-- ---- what holds of all records of some numbers
pub front_holds : (P : ℕ × FieldData → Type 0) (xs ys : List (ℕ × FieldData)) → AllByRecursion P (xs ++ ys) → AllByRecursion P xs
front_holds P [] ys h = tt
front_holds P (x ∷ xs) ys h = (h.0, front_holds P xs ys h.1)

pub back_holds : (P : ℕ × FieldData → Type 0) (xs ys : List (ℕ × FieldData)) → AllByRecursion P (xs ++ ys) → AllByRecursion P ys
back_holds P [] ys h = h
back_holds P (x ∷ xs) ys h = back_holds P xs ys h.1

pub all_turn : (P Q : ℕ × FieldData → Type 0) (S : ℕ → Bool) → ((y : ℕ × FieldData) → S y.0 ≡ true → P y → Q y) → (ys : List (ℕ × FieldData)) → AllNumbers S ys → AllByRecursion P ys → AllByRecursion Q ys
all_turn P Q S turn [] n h = tt
all_turn P Q S turn (y ∷ ys) n h = (turn y n.0 h.0, all_turn P Q S turn ys n.1 h.1)

-- those of some numbers, and those of others
pub both_numbers : (mine : ℕ → Bool) (D : ℕ → Bool) (xs ys : List (ℕ × FieldData)) → AllNumbers mine xs → AllNumbers D ys → AllNumbers (λ n. mine n || D n) (xs ++ ys)
both_numbers mine D [] [] a b = tt
both_numbers mine D [] (y ∷ ys) a b = (or_right (mine y.0) (D y.0) b.0, both_numbers mine D [] ys tt b.1)
both_numbers mine D (x ∷ xs) ys a b = (or_left (mine x.0) (D x.0) a.0, both_numbers mine D xs ys a.1 b)

pub some_mapped : {A B : Type 0} (set : A → B) (o : Option A) (u : B) → option_map set o ≡ Some u → (x : A) × (o ≡ Some x)
some_mapped set None u h = cc
some_mapped set (Some x) u h = (x, refl)

-- ---- of a part and the others, one takes a record
-- the others
module _ {M A B : Type 0} (mine : ℕ → Bool) (T : Taker (A × B)) (l : Schema M B) (owes : l.Owes) (exact : l.Exact) (other : (n : ℕ) → l.declares n ≡ true → mine n ≡ false)
    (theirs : (d : ℕ) (v : A × B) (n : ℕ) (w : WireType) (p : List ℕ) → mine n ≡ false → T d v n w p ≡ option_map (λ y. (v.0, y)) (l.takes d v.1 n w p)) (d : ℕ) where
  abbrev beside : A → B → A × B
  beside a b = (a, b)

  other_one : (y : ℕ × FieldData) → l.declares y.0 ≡ true → IsTakenWritten T d y → IsTakenWritten l.takes d y
  other_one y has (number, fits, low, v, u, h) =
      let same = theirs d v y.0 (wire_of y.1) (payload_encoding y.0 y.1) (other y.0 has) in
      let t = some_mapped (beside v.0) (l.takes d v.1 y.0 (wire_of y.1) (payload_encoding y.0 y.1)) u (sym same ∙ h) in
      (number, fits, low, v.1, t.0, t.1)

  other_kept : (ys : List (ℕ × FieldData)) → AllByRecursion (λ y. (mine y.0 || l.declares y.0) ≡ true → IsTakenWritten T d y) ys → AllByRecursion (λ y. l.declares y.0 ≡ true → IsTakenWritten l.takes d y) ys
  other_kept [] h = tt
  other_kept (y ∷ ys) h = (λ has. other_one y has (h.0 (or_right (mine y.0) (l.declares y.0) has)), other_kept ys h.1)

  pub others_low : (xs : List (ℕ × FieldData)) (v : B) → l.sound ≡ true → l.normal v → height (l.kept v) ≤ d → AllByRecursion (IsTakenWritten T d) (xs ++ l.own v) →
      AllByRecursion (λ y. (mine y.0 || l.declares y.0) ≡ true → IsTakenWritten T d y) (l.kept v) → l.levels v ≤ d
  others_low xs v sound normal high own kept =
      l.least owes exact sound d v normal high
      (all_turn (IsTakenWritten T d) (IsTakenWritten l.takes d) l.declares other_one (l.own v) (l.numbers owes exact v) (back_holds (IsTakenWritten T d) xs (l.own v) own))
      (other_kept (l.kept v) kept)

-- the field
module _ {A B Z : Type 0} (k : ℕ) (T : Taker (A × B)) (f : Taker Z) (held : A → Z) (d : ℕ)
    (mine : (v : A × B) (n : ℕ) (w : WireType) (p : List ℕ) → (n == k) ≡ true → (set : Z → A × B) × (T d v n w p ≡ option_map set (f d (held v.0) n w p))) where
  pub first_one : (y : ℕ × FieldData) → (y.0 == k) ≡ true → IsTakenWritten T d y → IsTakenWritten f d y
  first_one y is (number, fits, low, v, u, h) =
      let same = mine v y.0 (wire_of y.1) (payload_encoding y.0 y.1) is in
      let t = some_mapped same.0 (f d (held v.0) y.0 (wire_of y.1) (payload_encoding y.0 y.1)) u (sym same.1 ∙ h) in
      (number, fits, low, held v.0, t.0, t.1)

  pub firsts : (xs ys : List (ℕ × FieldData)) → AllNumbers (λ n. n == k) xs → AllByRecursion (IsTakenWritten T d) (xs ++ ys) → AllByRecursion (IsTakenWritten f d) xs
  firsts xs ys n h = all_turn (IsTakenWritten T d) (IsTakenWritten f d) (λ n. n == k) first_one xs n (front_holds (IsTakenWritten T d) xs ys h)

-- ---- records that were put aside
module _ {P A : Type 0} (k : ℕ) (s : Shape P A) (a : Unknowns A) (exact : IsExactWithUnknowns s a) (d : ℕ) where
  unknowns_one : (y : ℕ × FieldData) (t : Bool) → (y.0 == k) ≡ t → Choice t (a.AreUnknowns y.1) (Unit {0}) → ((y.0 == k) ≡ true → IsTakenWritten a.takes d y) → (if t then a.levels y.1 else 0) ≤ d
  unknowns_one y true is unknowns taken = exact.unknowns y.0 d y.1 unknowns (taken is)
  unknowns_one y false is unknowns taken = omega arith

  pub unknowns_low : (ys : Kept) → AllUnknowns k a.AreUnknowns ys → AllByRecursion (λ y. (y.0 == k) ≡ true → IsTakenWritten a.takes d y) ys → unknowns_levels k a.levels ys ≤ d
  unknowns_low [] all h = omega arith
  unknowns_low (y ∷ ys) all h = omega (arith, unknowns_one y (y.0 == k) refl all.0 h.0, unknowns_low ys all.1 h.1)
