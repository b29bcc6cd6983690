-- Two parts of a message are one: members under their numbers are a block, which a message has as one part.
-- Source: the protobuf encoding guide, "Message Structure".
use Rattle.std.specs.Prelude.{◌≡◌, ℕ, Bool, true, false, ◌||◌, [], ◌++◌, if◌then◌else◌}
use Rattle.std.specs.Option.{option_map}
use Rattle.buffa_fields.specs.UnknownsOfMembers.{Kept}
use Rattle.buffa_fields.specs.Schema.{Choice}
use Rattle.buffa_fields.specs.MessageParts.{Part, part_charge}
use Rattle.buffa_wire.specs.Takes.{Taker}

-- what the second part means is among the others of the first
abbrev pub inward : {A B C : Type 0} → (A × B) × C → A × (B × C)
inward v = (v.0.0, (v.0.1, v.1))

abbrev pub outward : {A B C : Type 0} → A × (B × C) → (A × B) × C
outward v = ((v.0, v.1.0), v.1.1)

abbrev pub adds_with_unknowns : {B C : Type 0} → (C → Kept → C) → B × C → Kept → B × C
adds_with_unknowns adds v rs = (v.0, adds v.1 rs)

-- the second part takes a field, beside what the first means
abbrev pub second_put : {A B C : Type 0} → A → B × C → (A × B) × C
second_put a y = ((a, y.0), y.1)

module _ {P Q A B : Type 0} (p : Part P A) (q : Part Q B) where
  abbrev pub both_mine : ℕ → Bool
  both_mine n = p.mine n || q.mine n

  abbrev pub both_takes : {C : Type 0} → (C → Kept → C) → Taker ((A × B) × C)
  both_takes adds d v n w x =
      if p.mine n then option_map outward (p.takes (adds_with_unknowns adds) d (inward v) n w x) else option_map (second_put v.0.0) (q.takes adds d (v.0.1, v.1) n w x)

  -- two parts, one of the first of two values and one of the second; keeps says whether a field of theirs may give the others
  -- records to keep
  abbrev pub both_part : Bool → Part (P × Q) (A × B)
  both_part keeps = record {
    meaning = λ m. (p.meaning m.0, q.meaning m.1);
    blank = (p.blank, q.blank);
    mine = both_mine;
    sound = λ D keeping sound. p.sound (λ n. q.mine n || D n) keeping (q.sound D keeping sound);
    takes = both_takes;
    asks = λ left d n w bs. Choice (p.mine n) (p.asks left d n w bs) (q.asks left d n w bs);
    charge = part_charge p.mine p.charge q.charge;
    records = λ v. p.records v.0 ++ q.records v.1;
    slots = λ v. p.slots v.0 ++ q.slots v.1;
    levels = λ v m kept. p.levels v.0 (q.levels v.1 m kept) kept;
    normal = λ v. p.normal v.0 × q.normal v.1;
    WithUnknowns = λ kept. p.WithUnknowns kept × q.WithUnknowns kept;
    Same = λ a b. b ≡ a;
    Took = λ d old kept n w bs before r new keeping after rest.
        Choice (p.mine n) (p.Took d old.0 kept n w bs before r new.0 keeping after rest × (new.1 ≡ old.1)) ((new.0 ≡ old.0) × q.Took d old.1 kept n w bs before r new.1 keeping after rest);
    Others = λ S E a b. Choice keeps (E a b) (S a b);
    seen = λ m z. q.seen m.1 (p.seen m.0 z);
    Owes = p.Owes × q.Owes;
    Exact = p.Exact × q.Exact;
    Fine = p.Fine × q.Fine × ((n : ℕ) → q.mine n ≡ true → p.mine n ≡ false);
  }

-- A part of a value that the message has
module _ {M P A : Type 0} (get : M → P) (p : Part P A) where
  abbrev pub part_within : Part M A
  part_within = record {
    meaning = λ m. p.meaning (get m);
    blank = p.blank;
    mine = p.mine;
    sound = p.sound;
    takes = p.takes;
    asks = p.asks;
    charge = p.charge;
    records = p.records;
    slots = p.slots;
    levels = p.levels;
    normal = p.normal;
    WithUnknowns = p.WithUnknowns;
    Same = λ a b. get b ≡ get a;
    Took = λ d old kept n w bs before r new keeping after rest. p.Took d (get old) kept n w bs before r (get new) keeping after rest;
    Others = λ S E a b. p.Others (λ _ _. S a b) (λ _ _. E a b) (get a) (get b);
    seen = λ m z. p.seen (get m) z;
    Owes = p.Owes;
    Exact = p.Exact;
    Fine = p.Fine;
  }

-- A part that gives the others no records to keep, among parts that do: it gives them none.
module _ {M A : Type 0} (p : Part M A) where
  abbrev pub none_given : {C : Type 0} → (C → Kept → C) → A × C → A × C
  none_given adds v = (v.0, adds v.1 [])

  abbrev pub no_unknowns_part : Part M A
  no_unknowns_part = record {
    meaning = p.meaning;
    blank = p.blank;
    mine = p.mine;
    sound = p.sound;
    takes = λ adds d v n w x. option_map (none_given adds) (p.takes adds d v n w x);
    asks = p.asks;
    charge = p.charge;
    records = p.records;
    slots = p.slots;
    levels = p.levels;
    normal = p.normal;
    WithUnknowns = p.WithUnknowns;
    Same = p.Same;
    Took = λ d old kept n w bs before r new keeping after rest. p.Took d old kept n w bs before r new keeping after rest × (keeping ≡ kept);
    Others = λ S E a b. E a b;
    seen = p.seen;
    Owes = p.Owes;
    Exact = p.Exact;
    Fine = p.Fine;
  }
