-- A part of a message: which fields are its own, and what becomes of them. A message is such parts, one after the other.
-- Source: the protobuf encoding guide, "Message Structure".
use Rattle.std.specs.Prelude.{◌≡◌, ◌≤◌, ℕ, Bool, true, false, List, [], ◌++◌, Result, Err, if◌then◌else◌}
use Rattle.std.specs.List.{AllByRecursion}
use Rattle.std.specs.Option.{option_map}
use Rattle.buffa_bytes.specs.Readings.{FullOnlyIf}
use Rattle.buffa_bytes.specs.declared.error.DecodeError.{DecodeError}
use Rattle.buffa_bytes.specs.declared.wire_type.WireType.{WireType}
use Rattle.buffa_wire.specs.BudgetLeft.{BudgetLeft}
use Rattle.buffa_wire.specs.Encoding.{records_encoding}
use Rattle.buffa_wire.specs.Parse.{AreValid}
use Rattle.buffa_wire.specs.ReadableFacts.{Readable}
use Rattle.buffa_wire.specs.Records.{records_of}
use Rattle.buffa_wire.specs.Takes.{Asks, IsTaken, Charge, ReadsBack, Stays, Taker}
use Rattle.buffa_fields.specs.UnknownsOfMembers.{Kept}
use Rattle.buffa_fields.specs.UndeclaredFields.{AllNumbers}
use Rattle.buffa_fields.specs.Schema.{IsPutBehind, Seen, more}
use Rattle.buffa_fields.specs.Levels.{IsTakenWritten}

-- a part takes the fields of its own numbers, and the others of a message take the others
abbrev pub part_take : {A B : Type 0} → (ℕ → Bool) → Taker (A × B) → Taker B → Taker (A × B)
part_take mine f g d v n w p = if mine n then f d v n w p else option_map (λ y. (v.0, y)) (g d v.1 n w p)

abbrev pub part_charge : (ℕ → Bool) → Charge → Charge → Charge
part_charge mine f g d n w bs = if mine n then f d n w bs else g d n w bs

-- What a part is: M is the message's type, A what the part means.
pub record Part (M A : Type 0) : Type 1 where
  pub meaning : M → A
  pub blank : A
  -- its own numbers
  pub mine : ℕ → Bool
  -- whether it is sound beside others: by which numbers these declare, whether they keep fields, and whether they are sound
  pub sound : (ℕ → Bool) → Bool → Bool → Bool
  -- what a field of its own makes of it and of the others, which it may give records to keep
  pub takes : {B : Type 0} → (B → Kept → B) → Taker (A × B)
  pub asks : ℕ → Asks
  pub charge : Charge
  pub records : A → Kept
  pub slots : A → List ℕ
  -- of a message: by the part's value, the others' levels, and the records that are kept
  pub levels : A → ℕ → Kept → ℕ
  pub normal : A → Type 0
  -- what may be among the records that are kept
  pub WithUnknowns : Kept → Type 0
  -- two messages have the same part; a field of its own is taken, where the others keep these records before and after; and then what is
  -- the same of the others, by what says that they are the same, and that they are but for what is kept
  pub Same : M → M → Type 0
  pub Took : ℕ → M → Kept → ℕ → WireType → List ℕ → BudgetLeft → Result (Unit {0}) DecodeError → M → Kept → BudgetLeft → List ℕ → Type 0
  pub Others : (M → M → Type 0) → (M → M → Type 0) → M → M → Type 0
  pub seen : M → Seen → Seen
  -- what its values owe, for reading back and for exact levels; and what its numbers are, where it is sound
  pub Owes : Type 0
  pub Exact : Type 0
  pub Fine : Type 0

-- What is proved of a part.
pub record PartLaws {M A : Type 0} (p : Part M A) : Type 1 where
  pub fine : (D : ℕ → Bool) (keeps sound : Bool) → p.sound D keeps sound ≡ true → p.Fine × ((n : ℕ) → D n ≡ true → p.mine n ≡ false) × (sound ≡ true)
  pub stays : Stays p.charge
  pub same_is : (a b : M) → p.Same a b → p.meaning a ≡ p.meaning b
  pub seen_is : (m : M) (z : Seen) → p.seen m z ≡ more (p.records (p.meaning m)) (p.slots (p.meaning m)) z
  -- the others mean b and c, and keep these records
  pub taken_is : {B : Type 0} (adds : B → Kept → B) (b c : B) (kept keeps : Kept) (S E : M → M → Type 0) (d : ℕ) (old : M) (n : ℕ) (w : WireType) (bs : List ℕ) (before : BudgetLeft) (r : Result (Unit {0}) DecodeError) (new : M) (after : BudgetLeft) (rest : List ℕ) →
      p.mine n ≡ true → (S old new → b ≡ c) → (E old new → (rs : Kept) → keeps ≡ kept ++ rs → c ≡ adds b rs) → p.Took d old kept n w bs before r new keeps after rest × p.Others S E old new →
      IsTaken (p.takes adds) p.charge d (p.meaning old, b) n w bs before r (p.meaning new, c) after rest
  pub asks_is : (kept keeps : Kept) (d : ℕ) (old : M) (n : ℕ) (w : WireType) (bs : List ℕ) (before : BudgetLeft) (r : Result (Unit {0}) DecodeError) (new : M) (after : BudgetLeft) (rest : List ℕ) →
      p.mine n ≡ true → p.Took d old kept n w bs before r new keeps after rest → FullOnlyIf r (p.asks before.unknown d n w bs)
  -- of a refused field the others stay
  pub differs_only : {B : Type 0} (adds : B → Kept → B) (b c : B) → adds b [] ≡ b → (kept keeps : Kept) (S E : M → M → Type 0) (d : ℕ) (old : M) (n : ℕ) (w : WireType) (bs : List ℕ) (before : BudgetLeft) (e : DecodeError) (new : M) (after : BudgetLeft) (rest : List ℕ) →
      (S old new → b ≡ c) → (E old new → (rs : Kept) → keeps ≡ kept ++ rs → c ≡ adds b rs) → p.Took d old kept n w bs before (let r : Result (Unit {0}) DecodeError = Err e in r) new keeps after rest × p.Others S E old new → b ≡ c
  pub others_low : (a : A) (m : ℕ) (kept : Kept) → m ≤ p.levels a m kept
  pub valid : p.Owes → p.Fine → (a : A) → p.normal a → AreValid (records_of (p.records a))
  pub back : p.Owes → p.Fine → {B : Type 0} (adds : B → Kept → B) → ((b : B) → adds b [] ≡ b) → ((b : B) (x y : Kept) → adds (adds b x) y ≡ adds b (x ++ y)) →
      (d : ℕ) (a : A) (m : ℕ) (kept : Kept) (b : B) → Readable (records_of (p.records a)) → p.normal a → p.levels a m kept ≤ d → ReadsBack (p.takes adds) p.mine d (p.blank, b) (records_encoding (p.records a)) (a, b)
  -- records that are kept, and of its own numbers, are put behind the others again
  pub again : p.Owes → {B : Type 0} (adds : B → Kept → B) (d : ℕ) (a : A) (m : ℕ) (kept : Kept) → p.WithUnknowns kept → p.levels a m kept ≤ d → AllByRecursion (λ y. p.mine y.0 ≡ true → IsPutBehind (p.takes adds) (λ v rs. (v.0, adds v.1 rs)) d y) kept
  pub numbers : p.Owes → p.Exact → (a : A) → AllNumbers p.mine (p.records a)
  pub least : p.Owes → p.Exact → p.Fine → {B : Type 0} (adds : B → Kept → B) (d : ℕ) (a : A) (m : ℕ) (kept : Kept) → p.normal a → p.WithUnknowns kept → m ≤ d → AllByRecursion (IsTakenWritten (p.takes adds) d) (p.records a) →
      AllByRecursion (λ y. p.mine y.0 ≡ true → IsTakenWritten (p.takes adds) d y) kept → p.levels a m kept ≤ d
