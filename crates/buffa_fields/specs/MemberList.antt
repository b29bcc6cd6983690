-- Lists of members. A message names its members by these, one after the other.
use Rattle.std.specs.Prelude.{◌≡◌, ℕ, ◌||◌, true, false, List, [], ◌++◌, refl}
use Rattle.std.proofs.Common.{sym, ap, ◌∙◌, arith, append_assoc, append-nil}
use Rattle.buffa_wire.specs.Parse.{AreValid}
use Rattle.buffa_wire.specs.ReadableFacts.{valid_joined}
use Rattle.buffa_wire.specs.Records.{FieldData, height, records_of}
use Rattle.buffa_wire.specs.KeptField.{keep_charge}
use Rattle.buffa_wire.proofs.KeepLemmas.{keep_stays}
use Rattle.buffa_wire.specs.Takes.{Taker, costs_nothing}
use Rattle.buffa_fields.specs.UnknownsOfMembers.{Unknowns}
use Rattle.buffa_fields.specs.facts.ReadBackFacts.{no_pieces}
use Rattle.buffa_fields.specs.UndeclaredFields.{KeepTakesMemory, keep_takes}
use Rattle.buffa_fields.specs.facts.UndeclaredFieldFacts.{keep_again}
use Rattle.buffa_fields.specs.Schema.{Choice, IsFieldKept, Schema, Passed, Shape, more, passes}
use Rattle.buffa_fields.specs.facts.SchemaFacts.{is_kept, kept_asks, kept_stays, is_passed, none_keep, passed_asks, more_none, part_seen}
use Rattle.buffa_fields.specs.facts.LevelFacts.{both_numbers, others_low}
use Rattle.buffa_fields.specs.facts.MemberPartFacts.{laws_with_unknowns, member_laws}
use Rattle.buffa_fields.specs.MemberParts.{part_with_unknowns, member_part}
use Rattle.buffa_fields.specs.facts.FieldAndOthersFacts.{either_stays, readable_both}
use Rattle.buffa_fields.specs.facts.PartFacts.{mine_front, mine_kept, part_again, part_differs_only_at, part_asks, part_back, part_is_taken}
use Rattle.buffa_fields.specs.MessageParts.{Part, PartLaws, part_charge, part_take}

-- a part, and the others
abbrev pub part : {M A B : Type 0} (p : Part M A) → PartLaws p → Schema M B → Schema M (A × B)
part {A = A} {B = B} p laws l = record {
  meaning = λ m. (p.meaning m, l.meaning m);
  blank = (p.blank, l.blank);
  takes = part_take p.mine (p.takes l.adds) l.takes;
  asks = λ left d n w bs. Choice (p.mine n) (p.asks left d n w bs) (l.asks left d n w bs);
  charge = part_charge p.mine p.charge l.charge;
  records = λ v. p.records v.0 ++ l.records v.1;
  slots = λ v. p.slots v.0 ++ l.slots v.1;
  levels = λ v. p.levels v.0 (l.levels v.1) (l.kept v.1);
  normal = λ v. p.normal v.0 × l.normal v.1 × p.WithUnknowns (l.kept v.1);
  declares = λ n. p.mine n || l.declares n;
  sound = p.sound l.declares l.keeps l.sound;
  keeps = l.keeps;
  kept = λ v. l.kept v.1;
  adds = λ v rs. (v.0, l.adds v.1 rs);
  bare = λ v. (v.0, l.bare v.1);
  own = λ v. p.records v.0 ++ l.own v.1;
  Same = λ a b. p.Same a b × l.Same a b;
  SameBut = λ a b. p.Same a b × l.SameBut a b;
  Taken = λ d old n w bs before r new after rest.
      Choice (p.mine n) (p.Took d old (l.kept (l.meaning old)) n w bs before r new (l.kept (l.meaning new)) after rest × p.Others l.Same l.SameBut old new) (p.Same old new × l.Taken d old n w bs before r new after rest);
  DiffersOnlyAt = λ n v u. Choice (p.mine n) (v.1 ≡ u.1) ((v.0 ≡ u.0) × l.DiffersOnlyAt n v.1 u.1);
  differs_only = λ d old n w bs before e new after rest h. part_differs_only_at p laws l d old n w bs before e new after rest h;
  seen = λ m z. l.seen m (p.seen m z);
  stays = either_stays p.mine p.charge l.charge laws.stays l.stays;
  same_is = λ a b h. λ i. (laws.same_is a b h.0 i, l.same_is a b h.1 i);
  same_kept = λ a b. let both = l.same_kept a b in (λ h. ((h.0, (both.0 h.1).0), (both.0 h.1).1), λ h. (h.0.0, both.1 (h.0.1, h.1)));
  same_but = λ a b rs h is. λ i. (sym (laws.same_is a b h.0) i, l.same_but a b rs h.1 is i);
  taken_is = λ d old n w bs before r new after rest h. part_is_taken p laws l d old n w bs before r new after rest h;
  asks_is = λ d old n w bs before r new after rest h. part_asks p laws l d old n w bs before r new after rest h;
  seen_is = λ m z. part_seen (l.seen m (p.seen m z)) (p.seen m z) z (p.records (p.meaning m)) (l.records (l.meaning m)) (p.slots (p.meaning m)) (l.slots (l.meaning m)) (l.seen_is m (p.seen m z)) (laws.seen_is m z);
  adds_none = λ v. λ i. (v.0, l.adds_none v.1 i);
  adds_twice = λ v x y. λ i. (v.0, l.adds_twice v.1 x y i);
  adds_kept = λ has v rs. l.adds_kept has v.1 rs;
  adds_own = λ v rs. ap (λ (z : List (ℕ × FieldData)). p.records v.0 ++ z) (l.adds_own v.1 rs);
  whole = λ v. λ i. (v.0, l.whole v.1 i);
  in_two = λ v. ap (λ (z : List (ℕ × FieldData)). p.records v.0 ++ z) (l.in_two v.1) ∙ sym (append_assoc (p.records v.0) (l.own v.1) (l.kept v.1));
  kept_low = λ v. omega (arith, l.kept_low v.1, laws.others_low v.0 (l.levels v.1) (l.kept v.1));
  Owes = p.Owes × l.Owes;
  valid = λ owes ok v normal.
      let fine = laws.fine l.declares l.keeps l.sound ok in
      valid_joined (p.records v.0) (l.records v.1) (laws.valid owes.0 fine.0 v.0 normal.0) (l.valid owes.1 fine.2 v.1 normal.1);
  back = λ owes ok d v fits normal low.
      let fine = laws.fine l.declares l.keeps l.sound ok in
      let each = readable_both (p.records v.0) (l.own v.1) fits in
      let others = laws.others_low v.0 (l.levels v.1) (l.kept v.1) in
      part_back p.mine l.declares fine.1 (p.takes l.adds) l.takes d (p.blank, l.blank) v.0 l.blank (l.bare v.1) (p.records v.0) (l.own v.1)
      (laws.back owes.0 fine.0 l.adds l.adds_none l.adds_twice d v.0 (l.levels v.1) (l.kept v.1) l.blank each.0 normal.0 low) (l.back owes.1 fine.2 d v.1 each.1 normal.1 (omega (arith, low, others)));
  again = λ owes ok d v normal low.
      let fine = laws.fine l.declares l.keeps l.sound ok in
      let others = laws.others_low v.0 (l.levels v.1) (l.kept v.1) in
      part_again p.mine l.declares fine.1 (p.takes l.adds) l.takes l.adds d (l.kept v.1) (laws.again owes.0 l.adds d v.0 (l.levels v.1) (l.kept v.1) normal.2 low)
      (l.again owes.1 fine.2 d v.1 normal.1 (omega (arith, low, others)));
  Exact = p.Exact × l.Exact;
  numbers = λ owes exact v. both_numbers p.mine l.declares (p.records v.0) (l.own v.1) (laws.numbers owes.0 exact.0 v.0) (l.numbers owes.1 exact.1 v.1);
  least = λ owes exact ok d v normal high own kept.
      let fine = laws.fine l.declares l.keeps l.sound ok in
      let all : Taker (A × B) = part_take p.mine (p.takes l.adds) l.takes in
      let others = others_low p.mine all l owes.1 exact.1 fine.1 (λ d v n w q off. rw off refl) d (p.records v.0) v.1 fine.2 normal.1 high own kept in
      laws.least owes.0 exact.0 fine.0 l.adds d v.0 (l.levels v.1) (l.kept v.1) normal.0 normal.2 others
      (mine_front p.mine l.declares fine.1 (p.takes l.adds) l.takes d (p.records v.0) (l.own v.1) (laws.numbers owes.0 exact.0 v.0) own)
      (mine_kept p.mine l.declares fine.1 (p.takes l.adds) l.takes d (l.kept v.1) kept);
}

-- a member under a number, and the others
abbrev pub field : {M P A B : Type 0} → ℕ → (M → P) → Shape P A → Schema M B → Schema M (A × B)
field k get s l = part (member_part k get s) (member_laws k get s) l

-- the same of a member that puts aside what it doesn't understand, among the fields that are kept
abbrev pub field_with_unknowns : {M P A B : Type 0} → ℕ → (M → P) → Shape P A → Unknowns A → Schema M B → Schema M (A × B)
field_with_unknowns k get s a l = part (part_with_unknowns k get s a) (laws_with_unknowns k get s a) l

-- fields that aren't declared are kept; a value is normal where the numbers of these may be a field's, nested ones too, and their
-- data are in range
abbrev pub keep_unknown : {M : Type 0} → (M → List (ℕ × FieldData)) → Schema M (List (ℕ × FieldData))
keep_unknown get = record {
  meaning = get;
  blank = [];
  takes = keep_takes;
  asks = KeepTakesMemory;
  charge = keep_charge;
  records = λ v. v;
  slots = λ v. [];
  levels = height;
  normal = λ v. AreValid (records_of v);
  declares = λ n. false;
  sound = true;
  keeps = true;
  kept = λ v. v;
  adds = λ v rs. v ++ rs;
  bare = λ v. [];
  own = λ v. [];
  Same = λ a b. get b ≡ get a;
  SameBut = λ a b. Unit {0};
  Taken = λ d old n w bs before r new after rest. IsFieldKept d (get old) n w bs before r (get new) after rest;
  DiffersOnlyAt = λ n v u. v ≡ u;
  differs_only = λ d old n w bs before e new after rest h. kept_stays d (get old) n w bs before e (get new) after rest h;
  seen = λ m z. more (get m) [] z;
  stays = keep_stays;
  same_is = λ a b h. sym h;
  same_kept = λ a b. (λ h. (tt, h), λ h. h.1);
  same_but = λ a b rs h is. is;
  taken_is = λ d old n w bs before r new after rest h. is_kept d (get old) n w bs before r (get new) after rest h;
  asks_is = λ d old n w bs before r new after rest h. kept_asks d (get old) n w bs before r (get new) after rest h;
  seen_is = λ m z. refl;
  adds_none = λ v. append-nil v;
  adds_twice = λ v x y. append_assoc v x y;
  adds_kept = λ has v rs. refl;
  adds_own = λ v rs. refl;
  whole = λ v. refl;
  in_two = λ v. refl;
  kept_low = λ v. omega arith;
  Owes = Unit {0};
  valid = λ _ _ v valid. valid;
  back = λ _ _ d v fits h low. no_pieces keep_takes (λ n. false) d [];
  again = λ _ _ d v h low. keep_again d v;
  Exact = Unit {0};
  numbers = λ _ _ v. tt;
  least = λ _ _ _ d v normal high own kept. high;
}

-- fields that aren't declared are passed over
abbrev pub skip_unknown : {M : Type 0} → Schema M (Unit {0})
skip_unknown = record {
  meaning = λ m. tt;
  blank = tt;
  takes = passes;
  asks = λ left d n w bs. ⊥;
  charge = costs_nothing;
  records = λ v. [];
  slots = λ v. [];
  levels = λ v. 0;
  normal = λ v. Unit {0};
  declares = λ n. false;
  sound = true;
  keeps = false;
  kept = λ v. [];
  adds = λ v rs. v;
  bare = λ v. v;
  own = λ v. [];
  Same = λ a b. Unit {0};
  SameBut = λ a b. Unit {0};
  Taken = λ d old n w bs before r new after rest. Passed d n w bs before r after rest;
  DiffersOnlyAt = λ n v u. Unit {0};
  differs_only = λ d old n w bs before e new after rest h. tt;
  seen = λ m z. z;
  stays = λ d n w p x h. refl;
  same_is = λ a b h. refl;
  same_kept = λ a b. (λ h. (tt, refl), λ h. tt);
  same_but = λ a b rs h is. refl;
  taken_is = λ d old n w bs before r new after rest h. is_passed d n w bs before r after rest h;
  asks_is = λ d old n w bs before r new after rest h. passed_asks d n w bs before r after rest h;
  seen_is = λ m z. more_none z;
  adds_none = λ v. refl;
  adds_twice = λ v x y. refl;
  adds_kept = λ has v rs. none_keep has;
  adds_own = λ v rs. refl;
  whole = λ v. refl;
  in_two = λ v. refl;
  kept_low = λ v. omega arith;
  Owes = Unit {0};
  valid = λ _ _ v h. tt;
  back = λ _ _ d v f h low. no_pieces passes (λ n. false) d v;
  again = λ _ _ d v h low. tt;
  Exact = Unit {0};
  numbers = λ _ _ v. tt;
  least = λ _ _ _ d v normal high own kept. omega arith;
}
