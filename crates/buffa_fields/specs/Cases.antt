-- The cases of a `oneof`: at most one of them is there. Source: the protobuf encoding guide, "Oneofs"; the protobuf language
-- guide, "Oneof".
use Rattle.std.specs.Prelude.{◌≡◌, ◌≤◌, ℕ, ◌==◌, ◌&&◌, ◌||◌, Bool, true, false, not, List, [], Option, Some, None, Result, Ok, Err, if◌then◌else◌}
use Rattle.std.specs.List.{AllByRecursion}
use Rattle.std.specs.Option.{option_map}
use Rattle.buffa_bytes.specs.Readings.{FullOnlyIf}
use Rattle.buffa_bytes.specs.Number.{IsNumber}
use Rattle.buffa_bytes.specs.declared.error.DecodeError.{DecodeError}
use Rattle.buffa_bytes.specs.declared.wire_type.WireType.{WireType}
use Rattle.buffa_wire.specs.BudgetLeft.{BudgetLeft}
use Rattle.buffa_wire.specs.Encoding.{records_encoding}
use Rattle.buffa_wire.specs.Parse.{AreValid}
use Rattle.buffa_wire.specs.ReadableFacts.{Readable}
use Rattle.buffa_wire.specs.Records.{records_of}
use Rattle.buffa_wire.specs.Takes.{Asks, IsTaken, Charge, ReadsBack, Stays, Taker, costs_nothing}
use Rattle.buffa_fields.specs.UnknownsOfMembers.{Kept}
use Rattle.buffa_fields.specs.UndeclaredFields.{AllNumbers}
use Rattle.buffa_fields.specs.Schema.{Choice, ReadsBackTo, Seen, Shape, Took, is_number, more, visited}
use Rattle.buffa_fields.specs.Levels.{IsTakenWritten}
use Rattle.buffa_fields.specs.declared.meaning.Or.{Or}
use Rattle.buffa_fields.specs.declared.meaning.Or.TheVariants.{This, Other}

-- ---- what may be a case
-- What a member type of one value that may be absent owes, where it is a case: merges is whether what is read is merged into the
-- value that stands, as a message is, or takes its place.
pub record CaseWords {P A : Type 0} (s : Shape (Option P) (Option A)) (merges : Bool) : Type 0 where
  pub there : (p : P) → (a : A) × (s.meaning (Some p) ≡ Some a)
  pub absent : s.meaning None ≡ None
  pub blank : s.blank ≡ None
  pub alone : merges ≡ false → (d : ℕ) (v : Option A) (n : ℕ) (w : WireType) (p : List ℕ) → s.takes d v n w p ≡ s.takes d None n w p

-- ---- some cases, and others after them
-- what stands of the first, and of the others
abbrev pub this_of : {A B : Type 0} → Option (Or A B) → Option A
this_of None = None
this_of (Some (This a)) = Some a
this_of (Some (Other b)) = None

abbrev pub other_of : {A B : Type 0} → Option (Or A B) → Option B
other_of None = None
other_of (Some (This a)) = None
other_of (Some (Other b)) = Some b

-- one of the first stands, or one of the others, or none
abbrev pub either : {A B : Type 0} → Option A → Option B → Option (Or A B)
either (Some a) o = Some (This a)
either None o = option_map Other o

-- one of two, by which of them a case is of
abbrev pub by_case : {A B C : Type 0} → (A → C) → (B → C) → Or A B → C
by_case f g (This a) = f a
by_case f g (Other b) = g b

abbrev pub ByCase : {A B : Type 0} → (A → Type 0) → (B → Type 0) → Or A B → Type 0
ByCase P Q (This a) = P a
ByCase P Q (Other b) = Q b

-- of a case that is there
abbrev pub if_there : {X Y : Type 0} → Y → (X → Y) → Option X → Y
if_there none f None = none
if_there none f (Some x) = f x

-- get finds the value of a case, where it stands
module _ {O P A : Type 0} (get : Option O → Option P) (s : Shape (Option P) (Option A)) (d : ℕ) (old : Option O) (n : ℕ) (w : WireType) (bs : List ℕ) (before : BudgetLeft) where
  -- the case has this new value, of what stood before a field was taken
  abbrev pub IsPutOver : Option P → Result (Unit {0}) DecodeError → Option P → BudgetLeft → List ℕ → Type 0
  IsPutOver stood r None after rest = ⊥
  IsPutOver stood r (Some q) after rest = Took s d stood n w bs before r (Some q) after rest

  -- another case stood, or none, or what stood doesn't count: the new value takes its place; a refused field leaves it
  abbrev pub IsPutNew : Result (Unit {0}) DecodeError → Option O → BudgetLeft → List ℕ → Type 0
  IsPutNew (Ok x) new after rest = IsPutOver None (let r : Result (Unit {0}) DecodeError = Ok x in r) (get new) after rest
  IsPutNew (Err e) new after rest = Took s d None n w bs before (let r : Result (Unit {0}) DecodeError = Err e in r) None after rest × (new ≡ old)

  -- a value stood that counts, or none
  abbrev pub IsCasePut : Option P → Result (Unit {0}) DecodeError → Option O → BudgetLeft → List ℕ → Type 0
  IsCasePut None r new after rest = IsPutNew r new after rest
  IsCasePut (Some p) r new after rest = IsPutOver (Some p) r (get new) after rest

-- ---- cases
-- The cases of a oneof: V has one of their values, X what one of these means.
pub record Cases (V X : Type 0) : Type 1 where
  pub meaning : Option V → Option X
  -- their numbers; whether they are sound beside others
  pub mine : ℕ → Bool
  pub sound : (ℕ → Bool) → Bool → Bool
  pub takes : Taker (Option X)
  pub asks : Asks
  pub charge : Charge
  pub records : X → Kept
  pub slots : X → List ℕ
  pub levels : X → ℕ
  pub normal : X → Type 0
  -- the case of the number took the field: at finds the cases in what holds them
  pub Took : {O : Type 0} → (Option O → Option V) → ℕ → Option O → ℕ → WireType → List ℕ → BudgetLeft → Result (Unit {0}) DecodeError → Option O → BudgetLeft → List ℕ → Type 0
  -- the case that stands was visited; its slots
  pub seen : V → Seen → Seen
  pub lent : V → List ℕ
  -- what its values owe, for reading back and for exact levels; and what its numbers are, where they are sound
  pub Owes : Type 0
  pub Exact : Type 0
  pub Fine : Type 0

-- What is proved of them.
pub record CasesLaws {V X : Type 0} (c : Cases V X) : Type 1 where
  pub fine : (D : ℕ → Bool) (sound : Bool) → c.sound D sound ≡ true → c.Fine × ((n : ℕ) → D n ≡ true → c.mine n ≡ false) × (sound ≡ true)
  pub absent : c.meaning None ≡ None
  -- each value means something
  pub there : (v : V) → (x : X) × (c.meaning (Some v) ≡ Some x)
  pub stays : Stays c.charge
  pub taken_is : {O : Type 0} (at : Option O → Option V) (d : ℕ) (old : Option O) (n : ℕ) (w : WireType) (bs : List ℕ) (before : BudgetLeft) (r : Result (Unit {0}) DecodeError) (new : Option O) (after : BudgetLeft) (rest : List ℕ) →
      c.mine n ≡ true → c.Took at d old n w bs before r new after rest → IsTaken c.takes c.charge d (c.meaning (at old)) n w bs before r (c.meaning (at new)) after rest
  pub puts : {O : Type 0} (at : Option O → Option V) (d : ℕ) (old : Option O) (n : ℕ) (w : WireType) (bs : List ℕ) (before : BudgetLeft) (x : Unit {0}) (new : Option O) (after : BudgetLeft) (rest : List ℕ) →
      c.mine n ≡ true → c.Took at d old n w bs before (let r : Result (Unit {0}) DecodeError = Ok x in r) new after rest → (v : V) × (at new ≡ Some v)
  pub asks_is : {O : Type 0} (at : Option O → Option V) (d : ℕ) (old : Option O) (n : ℕ) (w : WireType) (bs : List ℕ) (before : BudgetLeft) (r : Result (Unit {0}) DecodeError) (new : Option O) (after : BudgetLeft) (rest : List ℕ) →
      c.mine n ≡ true → c.Took at d old n w bs before r new after rest → FullOnlyIf r (c.asks d n w bs)
  pub seen_is : (v : V) (z : Seen) → c.seen v z ≡ more (if_there [] c.records (c.meaning (Some v))) (if_there [] c.slots (c.meaning (Some v))) z
  pub lent_is : (v : V) → c.lent v ≡ if_there [] c.slots (c.meaning (Some v))
  pub valid : c.Owes → c.Fine → (x : X) → c.normal x → AreValid (records_of (c.records x))
  pub back : c.Owes → c.Fine → (d : ℕ) (x : X) → Readable (records_of (c.records x)) → c.normal x → c.levels x ≤ d → ReadsBack c.takes c.mine d None (records_encoding (c.records x)) (Some x)
  pub numbers : c.Owes → c.Exact → (x : X) → AllNumbers c.mine (c.records x)
  pub least : c.Owes → c.Exact → c.Fine → (d : ℕ) (x : X) → c.normal x → AllByRecursion (IsTakenWritten c.takes d) (c.records x) → c.levels x ≤ d

-- no case
abbrev pub none_of : Cases ⊥ (Unit {0})
none_of = record {
  meaning = λ o. None;
  mine = λ n. false;
  sound = λ D sound. sound;
  takes = λ d v n w p. None;
  asks = λ d n w bs. ⊥;
  charge = costs_nothing;
  records = λ x. [];
  slots = λ x. [];
  levels = λ x. 0;
  normal = λ x. ⊥;
  Took = λ at d old n w bs before r new after rest. Unit {0};
  seen = λ v z. z;
  lent = λ v. [];
  Owes = Unit {0};
  Exact = Unit {0};
  Fine = Unit {0};
}

-- one case, under a number
abbrev pub single_case : {P A : Type 0} → ℕ → Shape (Option P) (Option A) → Bool → Cases P A
single_case k s merges = record {
  meaning = s.meaning;
  mine = λ n. n == k;
  sound = λ D sound. is_number k && not (D k) && (s.whole && sound);
  takes = s.takes;
  asks = s.asks;
  charge = s.charge;
  records = λ a. s.records k (Some a);
  slots = λ a. s.slots (Some a);
  levels = λ a. s.levels (Some a);
  normal = λ a. s.normal (Some a);
  Took = λ at d old n w bs before r new after rest. IsCasePut at s d old n w bs before (if merges then at old else None) r new after rest;
  seen = λ p z. visited s k (Some p) z;
  lent = λ p. s.slots (s.meaning (Some p));
  Owes = ReadsBackTo s;
  Exact = s.Exact;
  Fine = IsNumber k;
}

-- some cases, and others after them
abbrev pub or_cases : {V X W Y : Type 0} → Cases V X → Cases W Y → Cases (Or V W) (Or X Y)
or_cases first others = record {
  meaning = λ o. either (first.meaning (this_of o)) (others.meaning (other_of o));
  mine = λ n. first.mine n || others.mine n;
  sound = λ D sound. first.sound (λ n. D n || others.mine n) (others.sound D sound);
  takes = λ d v n w p. if first.mine n then option_map (option_map This) (first.takes d (this_of v) n w p) else option_map (option_map Other) (others.takes d (other_of v) n w p);
  asks = λ d n w bs. Choice (first.mine n) (first.asks d n w bs) (others.asks d n w bs);
  charge = λ d n w bs. if first.mine n then first.charge d n w bs else others.charge d n w bs;
  records = by_case first.records others.records;
  slots = by_case first.slots others.slots;
  levels = by_case first.levels others.levels;
  normal = ByCase first.normal others.normal;
  Took = λ at d old n w bs before r new after rest.
      Choice (first.mine n) (first.Took (λ o. this_of (at o)) d old n w bs before r new after rest) (others.Took (λ o. other_of (at o)) d old n w bs before r new after rest);
  seen = by_case first.seen others.seen;
  lent = by_case first.lent others.lent;
  Owes = first.Owes × others.Owes;
  Exact = first.Exact × others.Exact;
  Fine = first.Fine × ((n : ℕ) → others.mine n ≡ true → first.mine n ≡ false) × others.Fine;
}
