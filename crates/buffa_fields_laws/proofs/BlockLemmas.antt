-- What is proved of blocks, in the words of their laws.
use Rattle.std.proofs.Common.{◌≡◌, ◌==◌, ℕ, Bool, true, false, ◌||◌, List, [], Option, Some, None, refl, sym, append_assoc, if◌then◌else◌}
use Rattle.std.specs.Prelude.{◌↔◌, Result}
use Rattle.std.specs.Option.{option_map}
use Rattle.buffa_bytes.specs.declared.error.DecodeError.{DecodeError}
use Rattle.buffa_bytes.specs.declared.wire_type.WireType.{WireType}
use Rattle.buffa_wire.specs.BudgetLeft.{BudgetLeft}
use Rattle.buffa_fields.specs.UnknownsOfMembers.{Unknowns}
use Rattle.buffa_fields_laws.specs.SameSchema.{SaysTheSame}
use Rattle.buffa_fields.specs.Blocks.{Block, no_unknowns, block, block_of, both_blocks, one, one_case, one_with_unknowns}
use Rattle.buffa_fields.specs.TwoPartsAreOne.{inward, none_given, outward, second_put}
use Rattle.buffa_fields.specs.Schema.{Choice, Schema, Shape, Took}
use Rattle.buffa_fields.specs.MemberList.{field, field_with_unknowns}
use Rattle.buffa_fields.specs.NamingOneOfs.{one_of}
use Rattle.buffa_fields.specs.OneOfParts.{OneOf}
use Rattle.buffa_fields.specs.facts.CasesFacts.{map_same}
use Rattle.buffa_fields.specs.MemberParts.{member_part}

abbrev answer : Type 0
answer = Result (Unit {0}) DecodeError

-- ---- which of two blocks takes a field
module _ {A B C : Type 0} (a : A) (b : B) where
  there : (x : Option (A × (B × C))) → x ≡ option_map inward (option_map outward x)
  there None = refl
  there (Some x) = refl

  second : (y : Option (B × C)) → option_map (λ z. (a, z)) y ≡ option_map inward (option_map (second_put a) y)
  second None = refl
  second (Some y) = refl

  behind : (z : Option C) → option_map (λ y. (a, y)) (option_map (λ c. (b, c)) z) ≡ option_map inward (option_map (λ c. ((a, b), c)) z)
  behind None = refl
  behind (Some z) = refl

  by_one : (s t : Bool) (x : Option (A × (B × C))) (y : Option (B × C)) (z : Option C) →
      (if s then x else option_map (λ w. (a, w)) (if t then y else option_map (λ c. (b, c)) z)) ≡
      option_map inward (if s || t then (if s then option_map outward x else option_map (second_put a) y) else option_map (λ c. ((a, b), c)) z)
  by_one true t x y z = there x
  by_one false true x y z = second y
  by_one false false x y z = behind z

choices : (s t : Bool) (X Y Z : Type 0) → Choice (s || t) (Choice s X Y) Z ↔ Choice s X (Choice t Y Z)
choices true t X Y Z = (λ h. h, λ h. h)
choices false t X Y Z = (λ h. h, λ h. h)

costs : (s t : Bool) {N : Type 0} (x y z : N) → (if s || t then (if s then x else y) else z) ≡ (if s then x else (if t then y else z))
costs true t x y z = refl
costs false t x y z = refl

any_of : (s t u : Bool) → ((s || t) || u) ≡ (s || (t || u))
any_of true t u = refl
any_of false t u = refl

module _ {keeps : Bool} {M P Q A B C : Type 0} (f : M → P) (g : M → Q) (p : Block keeps P A) (q : Block keeps Q B) (l : Schema M C) where
  -- ---- a field is taken by the first, by the second, or by the others
  module _ (d : ℕ) (old : M) (n : ℕ) (w : WireType) (bs : List ℕ) (before : BudgetLeft) (r : answer) (new : M) (after : BudgetLeft) (rest : List ℕ) where
    abbrev First : Type 0
    First = p.part.Took d (f old) (l.kept (l.meaning old)) n w bs before r (f new) (l.kept (l.meaning new)) after rest

    abbrev Second : Type 0
    Second = q.part.Took d (g old) (l.kept (l.meaning old)) n w bs before r (g new) (l.kept (l.meaning new)) after rest

    abbrev Left : Type 0
    Left = Choice keeps (l.SameBut old new) (l.Same old new)

    -- what the others of the first are: the second, and the others of both
    abbrev Behind : Type 0
    Behind = p.part.Others (λ _ _. (g new ≡ g old) × l.Same old new) (λ _ _. (g new ≡ g old) × l.SameBut old new) (f old) (f new)

    abbrev BehindBoth : Type 0
    BehindBoth = q.part.Others (λ _ _. l.Same old new) (λ _ _. l.SameBut old new) (g old) (g new)

    in_one : (t : Bool) (X Y Z : Type 0) → Choice t (X × Y) (X × Z) → X × Choice t Y Z
    in_one true X Y Z h = h
    in_one false X Y Z h = h

    in_both : (t : Bool) (X Y Z : Type 0) → X × Choice t Y Z → Choice t (X × Y) (X × Z)
    in_both true X Y Z h = h
    in_both false X Y Z h = h

    to_behind : (g new ≡ g old) × Left → Behind
    to_behind h = p.leaves.others (λ _ _. (g new ≡ g old) × l.Same old new) (λ _ _. (g new ≡ g old) × l.SameBut old new) (f old) (f new) (in_both keeps (g new ≡ g old) (l.SameBut old new) (l.Same old new) h)

    from_behind : Behind → (g new ≡ g old) × Left
    from_behind h = in_one keeps (g new ≡ g old) (l.SameBut old new) (l.Same old new) (p.leaves.only (λ _ _. (g new ≡ g old) × l.Same old new) (λ _ _. (g new ≡ g old) × l.SameBut old new) (f old) (f new) h)

    to_both : Left → BehindBoth
    to_both h = q.leaves.others (λ _ _. l.Same old new) (λ _ _. l.SameBut old new) (g old) (g new) h

    from_both : BehindBoth → Left
    from_both h = q.leaves.only (λ _ _. l.Same old new) (λ _ _. l.SameBut old new) (g old) (g new) h

    both_taken : (s t : Bool) →
        Choice (s || t) (Choice s (First × (g new ≡ g old)) ((f new ≡ f old) × Second) × Left) (◌≡◌ {A = P × Q} (f new, g new) (f old, g old) × l.Taken d old n w bs before r new after rest)
        ↔ Choice s (First × Behind) ((f new ≡ f old) × Choice t (Second × BehindBoth) ((g new ≡ g old) × l.Taken d old n w bs before r new after rest))
    both_taken true t = (λ h. (h.0.0, to_behind (h.0.1, h.1)), λ h. let left = from_behind h.1 in ((h.0, left.0), left.1))
    both_taken false true = (λ h. (h.0.0, (h.0.1, to_both h.1)), λ h. ((h.0, h.1.0), from_both h.1.1))
    both_taken false false = (λ h. (λ i. (h.0 i).0, (λ i. (h.0 i).1, h.1)), λ h. (λ i. (h.0 i, h.1.0 i), h.1.1))

  pub both_are : SaysTheSame inward (block (block_of (λ m. (f m, g m)) (both_blocks p q)) l) (block (block_of f p) (block (block_of g q) l))
  both_are = record {
    meaning = λ m. refl;
    blank = refl;
    takes = λ d v n w x.
        by_one v.0.0 v.0.1 (p.part.mine n) (q.part.mine n) (p.part.takes (λ y rs. (y.0, l.adds y.1 rs)) d (inward v) n w x) (q.part.takes l.adds d (v.0.1, v.1) n w x) (l.takes d v.1 n w x);
    asks = λ left d n w bs. choices (p.part.mine n) (q.part.mine n) (p.part.asks left d n w bs) (q.part.asks left d n w bs) (l.asks left d n w bs);
    charge = λ d n w bs. costs (p.part.mine n) (q.part.mine n) (p.part.charge d n w bs) (q.part.charge d n w bs) (l.charge d n w bs);
    records = λ v. append_assoc (p.part.records v.0.0) (q.part.records v.0.1) (l.records v.1);
    slots = λ v. append_assoc (p.part.slots v.0.0) (q.part.slots v.0.1) (l.slots v.1);
    levels = λ v. refl;
    normal = λ v. (λ h. (h.0.0, (h.0.1, h.1, h.2.1), h.2.0), λ h. ((h.0, h.1.0), h.1.1, (h.2, h.1.2)));
    declares = λ n. any_of (p.part.mine n) (q.part.mine n) (l.declares n);
    sound = refl;
    exact = (λ h. (h.0.0, (h.0.1, h.1)), λ h. ((h.0, h.1.0), h.1.1));
    taken = λ d old n w bs before r new after rest. both_taken d old n w bs before r new after rest (p.part.mine n) (q.part.mine n);
  }

-- ---- a block of one
module _ {M P A B : Type 0} (k : ℕ) (get : M → P) (s : Shape P A) (l : Schema M B) where
  pub one_is : SaysTheSame (λ v. v) (block (block_of get (one k s)) l) (field k get s l)
  one_is = record {
    meaning = λ m. refl;
    blank = refl;
    takes = λ d v n w p. sym (map_same ((field k get s l).takes d v n w p));
    asks = λ left d n w bs. (λ h. h, λ h. h);
    charge = λ d n w bs. refl;
    records = λ v. refl;
    slots = λ v. refl;
    levels = λ v. refl;
    normal = λ v. (λ h. h, λ h. h);
    declares = λ n. refl;
    sound = refl;
    exact = (λ h. h, λ h. h);
    taken = λ d old n w bs before r new after rest. (λ h. h, λ h. h);
  }

  given : (v : Option (A × B)) → v ≡ option_map (λ x. x) (option_map (λ x. (x.0, l.adds x.1 [])) v)
  given None = refl
  given (Some x) = λ i. Some (x.0, sym (l.adds_none x.1) i)

  kept_none : (t : Bool) (x : Option A) (v : A × B) (z : Option B) →
      (if t then option_map (λ a. (a, v.1)) x else option_map (λ y. (v.0, y)) z) ≡
      option_map (λ u. u) (if t then option_map (none_given (member_part k (λ p. p) s) l.adds) (option_map (λ a. (a, v.1)) x) else option_map (λ y. (v.0, y)) z)
  kept_none true x v z = given (option_map (λ a. (a, v.1)) x)
  kept_none false x v z = sym (map_same (option_map (λ y. (v.0, y)) z))

  -- the others stay where they do but for what is kept, and that is as it was
  no_unknowns_taken : (t : Bool) (d : ℕ) (old : M) (n : ℕ) (w : WireType) (bs : List ℕ) (before : BudgetLeft) (r : answer) (new : M) (after : BudgetLeft) (rest : List ℕ) →
      Choice t ((Took s d (get old) n w bs before r (get new) after rest × (l.kept (l.meaning new) ≡ l.kept (l.meaning old))) × l.SameBut old new) ((get new ≡ get old) × l.Taken d old n w bs before r new after rest)
      ↔ Choice t (Took s d (get old) n w bs before r (get new) after rest × l.Same old new) ((get new ≡ get old) × l.Taken d old n w bs before r new after rest)
  no_unknowns_taken true d old n w bs before r new after rest =
      let same = l.same_kept old new in
      (λ h. (h.0.0, same.1 (h.1, h.0.1)), λ h. let both = same.0 h.1 in ((h.0, both.1), both.0))
  no_unknowns_taken false d old n w bs before r new after rest = (λ h. h, λ h. h)

  pub no_unknowns_is : SaysTheSame (λ v. v) (block (block_of get (no_unknowns (one k s))) l) (field k get s l)
  no_unknowns_is = record {
    meaning = λ m. refl;
    blank = refl;
    takes = λ d v n w p. kept_none (n == k) (s.takes d v.0 n w p) v (l.takes d v.1 n w p);
    asks = λ left d n w bs. (λ h. h, λ h. h);
    charge = λ d n w bs. refl;
    records = λ v. refl;
    slots = λ v. refl;
    levels = λ v. refl;
    normal = λ v. (λ h. h, λ h. h);
    declares = λ n. refl;
    sound = refl;
    exact = (λ h. h, λ h. h);
    taken = λ d old n w bs before r new after rest. no_unknowns_taken (n == k) d old n w bs before r new after rest;
  }

  pub kept_is : (a : Unknowns A) → SaysTheSame (λ v. v) (block (block_of get (one_with_unknowns k s a)) l) (field_with_unknowns k get s a l)
  kept_is a = record {
    meaning = λ m. refl;
    blank = refl;
    takes = λ d v n w p. sym (map_same ((field_with_unknowns k get s a l).takes d v n w p));
    asks = λ left d n w bs. (λ h. h, λ h. h);
    charge = λ d n w bs. refl;
    records = λ v. refl;
    slots = λ v. refl;
    levels = λ v. refl;
    normal = λ v. (λ h. h, λ h. h);
    declares = λ n. refl;
    sound = refl;
    exact = (λ h. h, λ h. h);
    taken = λ d old n w bs before r new after rest. (λ h. h, λ h. h);
  }

module _ {M O X B : Type 0} (get : M → Option O) (e : OneOf O X) (l : Schema M B) where
  pub case_is : SaysTheSame (λ v. v) (block (block_of get (one_case e)) l) (one_of get e l)
  case_is = record {
    meaning = λ m. refl;
    blank = refl;
    takes = λ d v n w p. sym (map_same ((one_of get e l).takes d v n w p));
    asks = λ left d n w bs. (λ h. h, λ h. h);
    charge = λ d n w bs. refl;
    records = λ v. refl;
    slots = λ v. refl;
    levels = λ v. refl;
    normal = λ v. (λ h. h, λ h. h);
    declares = λ n. refl;
    sound = refl;
    exact = (λ h. h, λ h. h);
    taken = λ d old n w bs before r new after rest. (λ h. h, λ h. h);
  }
