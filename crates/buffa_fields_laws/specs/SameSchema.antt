-- When two layouts say the same: of messages, and of each field that is taken or refused. By it laws say what a block of members is,
-- and what the members of a message are that holds itself: a layout of these members, one after the other.
use Rattle.std.specs.Prelude.{◌≡◌, ◌↔◌, ℕ, Bool, List}
use Rattle.std.proofs.Common.{◌∙◌, subst, sym}
use Rattle.std.specs.Option.{option_map}
use Rattle.buffa_bytes.specs.declared.wire_type.WireType.{WireType}
use Rattle.buffa_wire.specs.Message.{FieldTaken}
use Rattle.buffa_fields.specs.Blocks.{Block}
use Rattle.buffa_fields.specs.Schema.{Choice, Schema}
use Rattle.buffa_fields.specs.TakenClauses.{TakeAlike}

-- Two layouts say the same of each message, where turn makes a value of one a value of the other. And of each field the first says
-- what tells does: that it is taken or refused, by which error, what it costs, and what stands of the message then.
pub record SaysAlike {M X Y : Type 0} (turn : X → Y) (a : Schema M X) (b : Schema M Y) (tells : FieldTaken M) : Type 0 where
  pub meaning : (m : M) → b.meaning m ≡ turn (a.meaning m)
  pub blank : b.blank ≡ turn a.blank
  pub takes : (d : ℕ) (v : X) (n : ℕ) (w : WireType) (p : List ℕ) → b.takes d (turn v) n w p ≡ option_map turn (a.takes d v n w p)
  pub asks : (left d n : ℕ) (w : WireType) (bs : List ℕ) → a.asks left d n w bs ↔ b.asks left d n w bs
  pub charge : (d n : ℕ) (w : WireType) (bs : List ℕ) → a.charge d n w bs ≡ b.charge d n w bs
  pub records : (v : X) → a.records v ≡ b.records (turn v)
  pub slots : (v : X) → a.slots v ≡ b.slots (turn v)
  pub levels : (v : X) → a.levels v ≡ b.levels (turn v)
  pub normal : (v : X) → a.normal v ↔ b.normal (turn v)
  pub declares : (n : ℕ) → a.declares n ≡ b.declares n
  pub sound : a.sound ≡ b.sound
  pub exact : a.Exact ↔ b.Exact
  pub taken : TakeAlike a.Taken tells

-- the same, where that is what the second says of each field
abbrev pub SaysTheSame : {M X Y : Type 0} → (X → Y) → Schema M X → Schema M Y → Type 0
SaysTheSame turn a b = SaysAlike turn a b b.Taken

-- a block, among those of which a field may give records to keep just where one of its own may
abbrev pub as_with_unknowns : {k j : Bool} {P A : Type 0} → k ≡ j → Block k P A → Block j P A
as_with_unknowns is b = record {
  part = b.part;
  laws = b.laws;
  leaves = record {
    others = λ S E x y h. b.leaves.others S E x y (subst (λ z. Choice z (E x y) (S x y)) (sym is) h);
    only = λ S E x y h. subst (λ z. Choice z (E x y) (S x y)) is (b.leaves.only S E x y h);
  };
  alone = λ off. b.alone (is ∙ off);
}
